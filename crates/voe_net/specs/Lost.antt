-- Why an end was neither made nor loaded.
use Rattle.std.specs.Prelude.{◌≡◌, ◌⊎◌}
use Rattle.node_book.specs.declared.fault.BookFault.{BookFault}
use Rattle.node_book.specs.declared.fault.BookFault.TheVariants.{DiskFault, NoMemory}

-- the disk has failed, or there was no memory
abbrev pub IsLost : BookFault → Type 0
IsLost fault = (fault ≡ DiskFault) ⊎ (fault ≡ NoMemory)
