-- The book of a node that is up.
use Rattle.std.specs.Prelude.{Option, Some, None}
use Rattle.voe_disk.specs.declared.fail.DiskFail.{DiskFail}
use Rattle.node_book.specs.Book.{BookView}
use Rattle.node_book.specs.Ends.{EndView, book_of}

-- this book, unless its disk has failed
abbrev pub book_if : {D : Type 0} → BookView D → Option DiskFail → Option (BookView D)
book_if book None = Some book
book_if book (Some fail) = None

abbrev pub book_up : {D : Type 0} → Option (EndView D) → Option (BookView D)
book_up None = None
book_up (Some end) = book_if (book_of end) end.down
