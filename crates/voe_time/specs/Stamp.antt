-- The text of a moment, and which texts are times, both by the calendar of `jiff`.
use Rattle.std.specs.Prelude.{◌≡◌, ℕ, ◌/◌, ◌*◌, Bool, List, ◌++◌, codes, is_ok, pos}
use Rattle.std.specs.Io.BufRead.{strip_last}
use Rattle.jiff.specs.Types.{DateTime}
use Rattle.jiff.specs.Words.{civil_nanos, iso_datetime_text}
use Rattle.jiff_fmt.specs.Temporal.{parse_datetime}

-- the text is that of the date and time of a moment in milliseconds since 1970, without its fraction
pub record IsStamp (moment : ℕ) (text : List ℕ) : Type 0 where
  pub civil : DateTime
  pub second : civil_nanos civil ≡ pos (moment / 1000 * 1_000_000_000)
  pub written : text ≡ iso_datetime_text civil ++ codes "Z"

-- the text, less one `Z` at its end, is read as a civil date and time
unfoldable pub is_time_text : List ℕ → Bool
is_time_text s = is_ok (parse_datetime (strip_last 90 s))
