-- What all tokens are, as the code has it.
use Rattle.filter_text.specs.Machine.{Read, unfinished, condition, a_path}
use Rattle.filter_text.specs.View.{path_of}
use Rattle.filter_text.specs.declared.walk.Sentence.{Sentence}
use Rattle.filter_text.specs.declared.walk.Sentence.TheVariants as code

abbrev pub sentence_view : Sentence → Read
sentence_view code.Unfinished = unfinished
sentence_view code.Condition = condition
sentence_view (code.Path p) = a_path (path_of p)
