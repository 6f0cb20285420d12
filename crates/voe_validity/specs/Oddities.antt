-- What may be odd about one element, by kinds.
use Rattle.std.specs.Prelude.{Bool, codes}
use Rattle.voe_tree.specs.declared.element.Element.{Element}
use Rattle.voe_validity.specs.Remarks.{lacks_author, lacks_name, has_no_time, has_no_decimal, has_bad_fraction, has_bad_expiry}
use Rattle.voe_validity.specs.declared.oddity.Oddity.{Oddity}
use Rattle.voe_validity.specs.declared.oddity.Oddity.TheVariants.{AuthorMissing, NoTime, NoDecimal, BadImportance, BadProbability, NameMissing, BadExpiry}

abbrev pub is_odd : Oddity → Element → Bool
is_odd AuthorMissing e = lacks_author e
is_odd NoTime e = has_no_time e
is_odd NoDecimal e = has_no_decimal e
is_odd BadImportance e = has_bad_fraction (codes "importance") e
is_odd BadProbability e = has_bad_fraction (codes "probability") e
is_odd NameMissing e = lacks_name e
is_odd BadExpiry e = has_bad_expiry e
