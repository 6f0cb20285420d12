pub mod Suffixes
pub mod TokenLaws
pub mod CutLaws
pub mod CuttingSteps
