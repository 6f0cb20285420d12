use Rattle.voe_time.proofs.Stamps.{first, last, one, printable, short}
use Rattle.voe_time.proofs.laws.stamps_are_plain.Goals as goal

pub returns-clause-one : goal.returns-clause-one
returns-clause-one c = one

pub returns-clause-printable : goal.returns-clause-printable
returns-clause-printable c = printable

pub returns-clause-first : goal.returns-clause-first
returns-clause-first c = first

pub returns-clause-last : goal.returns-clause-last
returns-clause-last c = last

pub returns-clause-short : goal.returns-clause-short
returns-clause-short c = short
