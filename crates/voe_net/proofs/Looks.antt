-- What is known of disks that were looked at.
use Rattle.std.proofs.Common.{◌≡◌, ℕ, ◌<◌, Bool, true, false, List, Some, None, length, refl, sym, ◌∙◌, ap, arith}
use Rattle.std.specs.Prelude.{Err, Ok, Result, slice_get, slice_set}
use Rattle.std.specs.Bool.{MatchBool}
use Rattle.net_model.proofs.Members.{get-set_same}
use Rattle.voe_disk.specs.Disk.{HasCause, Rose}
use Rattle.voe_disk.specs.declared.disk.Disk.{Ghosts}
use Rattle.voe_disk.specs.declared.fail.DiskFail.{DiskFail}
use Rattle.voe_disk.specs.declared.fail.DiskFail.TheVariants.{Fault, Stopped}
use Rattle.voe_net.specs.Each.{Each}
use Rattle.voe_net.specs.Looking.{AreLooked, IsLooked, NoneFailed}
use Rattle.voe_net.specs.Starting.{HasFailed, IsBlank, IsFirstMade, NoneArmed}
use Rattle.voe_net.proofs.Eaches.{each-self, each-set, get-there}

pub match-true : (P Q : Type 0) (b : Bool) → b ≡ true → MatchBool b P Q → P
match-true P Q true h m = m
match-true P Q false h m = cc

pub match-false : (P Q : Type 0) (b : Bool) → b ≡ false → MatchBool b P Q → Q
match-false P Q true h m = cc
match-false P Q false h m = m

pub looked-self : {D : Type 0} (disk : Ghosts D) (own : D) → IsLooked disk own own
looked-self disk own = record { reads = refl; arming = refl; images = λ fill. refl; later = omega arith }

pub all-looked-self : {D : Type 0} (disk : Ghosts D) (disks : List D) → AreLooked disk disks disks
all-looked-self disk disks = each-self (λ n was now. IsLooked disk was now) disks (λ n own at. looked-self disk own)

pub none-failed-self : {D : Type 0} (disk : Ghosts D) (disks : List D) → NoneFailed disk disks disks
none-failed-self disk disks = each-self (λ n was now. disk.faults now ≡ disk.faults was) disks (λ n own at. refl)

pub looked-on : {D : Type 0} (disk : Ghosts D) (first second third : D) → IsLooked disk first second → IsLooked disk second third → IsLooked disk first third
looked-on disk first second third one two = record {
  reads = two.reads ∙ one.reads;
  arming = two.arming ∙ one.arming;
  images = λ fill. two.images fill ∙ one.images fill;
  later = omega (arith, one.later, two.later);
}

-- one disk more was looked at
pub all-looked-on : {D : Type 0} (disk : Ghosts D) (old now : List D) (n : ℕ) (was own : D) → AreLooked disk old now → slice_get now n ≡ Some was
    → IsLooked disk was own → AreLooked disk old (slice_set now n own)
all-looked-on disk old now n was own all there one =
    each-set (λ k first last. IsLooked disk first last) old now n was own all there (λ first at before. looked-on disk first was own before one)

pub none-failed-on : {D : Type 0} (disk : Ghosts D) (old now : List D) (n : ℕ) (was own : D) → NoneFailed disk old now → slice_get now n ≡ Some was
    → disk.faults own ≡ disk.faults was → NoneFailed disk old (slice_set now n own)
none-failed-on disk old now n was own all there same =
    each-set (λ k first last. disk.faults last ≡ disk.faults first) old now n was own all there (λ first at before. same ∙ before)

-- what was at this place at first
pub first-at : {A B : Type 0} (R : ℕ → A → B → Type 0) (old : List A) (now : List B) (n : ℕ) (own : B) → Each R old now → slice_get now n ≡ Some own → n < length old
    → (was : A) × (slice_get old n ≡ Some was) × R n was own
first-at R old now n own all there within = let was = get-there old n within in (was.0, was.1, all.each n was.0 own was.1 there)

pub blank-same : {D : Type 0} (disk : Ghosts D) (was own : D) → IsLooked disk was own → IsBlank disk was → IsBlank disk own
blank-same disk was own looked blank = rw looked.reads blank

pub blank-before : {D : Type 0} (disk : Ghosts D) (was own : D) → IsLooked disk was own → IsBlank disk own → IsBlank disk was
blank-before disk was own looked blank = rw looked.reads at blank

pub is-first-made : {D : Type 0} (disk : Ghosts D) (old now : List D) (n : ℕ) (own : D) → AreLooked disk old now → slice_get now n ≡ Some own → n < length old
    → ((k : ℕ) (other : D) → k < n → slice_get old k ≡ Some other → IsBlank disk other) → (IsBlank disk own → ⊥) → IsFirstMade disk old n
is-first-made disk old now n own all there within below made =
    let first = first-at (λ k was last. IsLooked disk was last) old now n own all there within in
    record { own = first.0; there = first.1; made = λ blank. made (blank-same disk first.0 own first.2 blank); before = below }

rose-of : (fail : DiskFail) (before now : ℕ) (result : Result Bool DiskFail) → result ≡ Err fail → HasCause before now result → (result ≡ Err Stopped → ⊥)
    → Rose before now
rose-of Fault before now result is cause running = cause.fault is
rose-of Stopped before now result is cause running = absurd (running is)

-- the count stays where the call succeeded
pub is-quiet : (before now : ℕ) (result : Result Bool DiskFail) (answer : Bool) → result ≡ Ok answer → HasCause before now result → now ≡ before
is-quiet before now result answer is cause = cause.quiet (λ err. let both : Ok answer ≡ Err Fault = sym is ∙ err in cc)

pub has-failed : {D : Type 0} (disk : Ghosts D) (old now : List D) (n : ℕ) (was own : D) (fail : DiskFail) (result : Result Bool DiskFail) → AreLooked disk old now
    → NoneFailed disk old now → slice_get now n ≡ Some was → n < length old → NoneArmed disk old → result ≡ Err fail
    → HasCause (disk.faults was) (disk.faults own) result → ((disk.arming was).calls ≡ None → result ≡ Err Stopped → ⊥) → HasFailed disk old (slice_set now n own) n
has-failed disk old now n was own fail result looked same there within unarmed is cause running =
    let first = first-at (λ k one last. IsLooked disk one last) old now n was looked there within in
    let count = same.each n first.0 was first.1 there in
    let none : (disk.arming was).calls ≡ None = ap (λ arming. arming.calls) first.2.arming ∙ unarmed n first.0 first.1 in
    record {
      was = first.0;
      now = own;
      there = first.1;
      back = get-set_same now n own was there;
      rose = rw (← count) (rose-of fail (disk.faults was) (disk.faults own) result is cause (running none));
    }
