-- The making of a book, from call to call.
use Rattle.std.proofs.Common.{◌≡◌, inl, inr, true, ℕ, List, [], ◌∷◌, ◌++◌, length, Some, None, Result, Ok, Err, refl, sym, ap, subst, ◌∙◌}
use Rattle.std.specs.Prelude.{Option, IfSome, IfErr}
use Rattle.voe_disk.specs.Disk.{IsDurable}
use Rattle.voe_disk.specs.Runs.{LeavesOnly, Moments, started, joined, at_last}
use Rattle.voe_disk.specs.declared.disk.Disk.{Ghosts}
use Rattle.gate_journal.specs.Fault.{ComesFromDisk as FromDisk, IsMakeFault}
use Rattle.gate_journal.specs.Format.{Stands, StandsBeforeOrAfter}
use Rattle.gate_journal.specs.Making.{IsOnTheWay as IsJournalOnTheWay, IsMaking as IsJournalMaking, IsMakingSoFar as IsJournalMakingSoFar}
use Rattle.gate_journal.specs.Reading.{IsUnmade, IsRefusal as IsJournalRefusal}
use Rattle.gate_journal.specs.declared.fault.JournalFault.{JournalFault}
use Rattle.gate_journal.specs.declared.fault.JournalFault.TheVariants as journal
use Rattle.gate_journal.proofs.Told.{some_has}
use Rattle.node_notes.specs.declared.config.Config.{Config}
use Rattle.node_notes.specs.Forms.{is_config}
use Rattle.node_notes.specs.Spelling.{config_payload}
use Rattle.node_book.specs.Fault.{ComesFromDisk, IsMissing, book_fault}
use Rattle.node_book.specs.Making.{HasPayload, IsFree, IsMakeRefusal, IsOnTheWay, IsMaking}

pub if_err_map : {T E : Type 0} (r : Result T E) (P Q : E → Type 0) → ((e : E) → P e → Q e) → IfErr r P → IfErr r Q
if_err_map (Ok x) P Q so holds = tt
if_err_map (Err e) P Q so holds = so e holds

free_on_the_way : (reading : Option (List ℕ)) (image : List ℕ) → IfSome reading IsUnmade → IsJournalOnTheWay reading image → IsFree image
free_on_the_way reading image unmade (inl same) = inl (some_has reading IsUnmade image same unmade)
free_on_the_way reading image unmade (inr (was, inl none)) = inl none
free_on_the_way reading image unmade (inr (was, inr empty)) = inr empty

pub unmade_free : (reading : Option (List ℕ)) → IfSome reading IsUnmade → IfSome reading IsFree
unmade_free None is = tt
unmade_free (Some file) is = inl is

pub empty_free : (reading : Option (List ℕ)) (payloads : List (List ℕ)) → payloads ≡ [] → IfSome reading (λ file. Stands file payloads) → IfSome reading IsFree
empty_free None payloads none stands = tt
empty_free (Some file) payloads none stands = inr (subst (Stands file) none stands)

pub has_payload : (reading : Option (List ℕ)) (payloads : List (List ℕ)) → (payloads ≡ [] → ⊥) → IfSome reading (λ file. Stands file payloads) → IfSome reading HasPayload
has_payload None payloads some stands = tt
has_payload (Some file) payloads some stands = (payloads, stands, some)

pub not_empty : (payloads : List (List ℕ)) → (length payloads ≡ 0 → ⊥) → payloads ≡ [] → ⊥
not_empty payloads some none = some (ap (λ (l : List (List ℕ)). length l) none)

-- why a journal was not made where there was none
pub make_refused : (fault : JournalFault) (reading : Option (List ℕ)) → IsMakeFault fault → IfSome reading IsUnmade → (fault ≡ journal.AlreadyMade → IfSome reading (λ file. IsUnmade file → ⊥)) → IsMakeRefusal (book_fault fault) reading
make_refused journal.Unmade reading why unmade other = elim why [ inl is ↦ absurd (cc is) | inr from ↦ absurd from ]
make_refused (journal.NotJournal place) reading why unmade other = elim why [ inl is ↦ absurd (cc is) | inr from ↦ absurd from ]
make_refused (journal.Damaged place) reading why unmade other = elim why [ inl is ↦ absurd (cc is) | inr from ↦ absurd from ]
make_refused journal.Full reading why unmade other = elim why [ inl is ↦ absurd (cc is) | inr from ↦ absurd from ]
make_refused journal.AlreadyMade None why unmade other = tt
make_refused journal.AlreadyMade (Some file) why unmade other = absurd (other refl unmade)
make_refused journal.DiskFault reading why unmade other = tt
make_refused journal.Stopped reading why unmade other = tt
make_refused journal.NoMemory reading why unmade other = tt

-- what is refused and is no fault of the disk is that something else is there
pub missing_is_other : (fault : JournalFault) → IsMakeFault fault → IsMissing (book_fault fault) → fault ≡ journal.AlreadyMade
missing_is_other journal.Unmade why missing = elim why [ inl is ↦ absurd (cc is) | inr from ↦ absurd from ]
missing_is_other (journal.NotJournal place) why missing = elim why [ inl is ↦ absurd (cc is) | inr from ↦ absurd from ]
missing_is_other (journal.Damaged place) why missing = elim why [ inl is ↦ absurd (cc is) | inr from ↦ absurd from ]
missing_is_other journal.Full why missing = elim why [ inl is ↦ absurd (cc is) | inr from ↦ absurd from ]
missing_is_other journal.AlreadyMade why missing = refl
missing_is_other journal.DiskFault why missing = absurd (missing tt)
missing_is_other journal.Stopped why missing = absurd (missing tt)
missing_is_other journal.NoMemory why missing = absurd (missing tt)

-- why a journal was not loaded
pub load_refused : (fault : JournalFault) (reading : Option (List ℕ)) → (fault ≡ journal.Unmade → ⊥) → IsJournalRefusal fault reading → IsMakeRefusal (book_fault fault) reading
load_refused journal.Unmade reading other why = absurd (other refl)
load_refused (journal.NotJournal place) reading other why = why
load_refused (journal.Damaged place) reading other why = why
load_refused journal.Full reading other why = absurd why
load_refused journal.AlreadyMade reading other why = absurd why
load_refused journal.DiskFault reading other why = tt
load_refused journal.Stopped reading other why = tt
load_refused journal.NoMemory reading other why = tt

pub missing_loads : (fault : JournalFault) → IsMissing (book_fault fault) → FromDisk fault → ⊥
missing_loads journal.Unmade missing from = from
missing_loads (journal.NotJournal place) missing from = from
missing_loads (journal.Damaged place) missing from = from
missing_loads journal.Full missing from = from
missing_loads journal.AlreadyMade missing from = from
missing_loads journal.DiskFault missing from = missing tt
missing_loads journal.Stopped missing from = missing tt
missing_loads journal.NoMemory missing from = missing tt

-- an append to an empty journal is not refused but by the disk
pub append_refused : (fault : JournalFault) (reading : Option (List ℕ)) → FromDisk fault → IsMakeRefusal (book_fault fault) reading
append_refused journal.Unmade reading why = absurd why
append_refused (journal.NotJournal place) reading why = absurd why
append_refused (journal.Damaged place) reading why = absurd why
append_refused journal.Full reading why = absurd why
append_refused journal.AlreadyMade reading why = absurd why
append_refused journal.DiskFault reading why = tt
append_refused journal.Stopped reading why = tt
append_refused journal.NoMemory reading why = tt

pub append_from_disk : (fault : JournalFault) → FromDisk fault → ComesFromDisk (book_fault fault)
append_from_disk journal.Unmade why = why
append_from_disk (journal.NotJournal place) why = why
append_from_disk (journal.Damaged place) why = why
append_from_disk journal.Full why = why
append_from_disk journal.AlreadyMade why = why
append_from_disk journal.DiskFault why = tt
append_from_disk journal.Stopped why = tt
append_from_disk journal.NoMemory why = tt

-- the configuration's payload came behind none
pub first_payload : (config : Config) (payloads : List (List ℕ)) (payload : List ℕ) → is_config config ≡ true → payloads ≡ [] → payload ≡ config_payload config → (image : List ℕ) → StandsBeforeOrAfter payloads payload image → IsOnTheWay config image
first_payload config payloads payload fits none is image (inl before) = inl (inr (subst (Stands image) none before))
first_payload config payloads payload fits none is image (inr after) = inr (record {
  payloads = payloads ++ payload ∷ [];
  stands = after;
  tells = record { config_fits = fits; in_order = tt; payloads_are = (λ i. none i ++ is i ∷ []) };
})

module _ {D : Type 0} (disk : Ghosts D) (moments : Moments disk) where
  weaker : (P Q : List ℕ → Type 0) (old new : D) → ((image : List ℕ) → P image → Q image) → LeavesOnly disk old new P → LeavesOnly disk old new Q
  weaker P Q old new so run = record { later = run.later; each = λ image left. so image (run.each image left) }

  -- a journal was made, or its making was cut short, where the disk read none
  pub first_made : (old new : D) → IfSome (disk.reads old) IsUnmade → IsDurable (disk.reads old) (disk.may_leave old) → IsJournalMaking disk old new → LeavesOnly disk old new IsFree
  first_made old new unmade durable making =
      let early = weaker (disk.may_leave old) IsFree old making.synced (λ image now. inl (some_has (disk.reads old) IsUnmade image (durable image now) unmade)) making.until in
      let late = weaker (IsJournalOnTheWay (disk.reads old)) IsFree making.synced new (λ image way. free_on_the_way (disk.reads old) image unmade way) making.moments in
      joined disk moments IsFree old making.synced new early late

  pub first_so_far : (old new : D) → IfSome (disk.reads old) IsUnmade → IsDurable (disk.reads old) (disk.may_leave old) → IsJournalMakingSoFar disk old new → LeavesOnly disk old new IsFree
  first_so_far old new unmade durable (inl until) = weaker (disk.may_leave old) IsFree old new (λ image now. inl (some_has (disk.reads old) IsUnmade image (durable image now) unmade)) until
  first_so_far old new unmade durable (inr making) = first_made old new unmade durable making

  -- the disk was read, and is free
  pub was_read : (config : Config) (old synced : D) → LeavesOnly disk old synced (disk.may_leave old) → IsDurable (disk.reads synced) (disk.may_leave synced) → disk.reads synced ≡ disk.reads old → IfSome (disk.reads old) IsFree → IsMaking disk config old synced
  was_read config old synced until durable same free = record {
    synced = synced;
    until = until;
    durable = durable;
    same = same;
    moments = started disk moments (IsOnTheWay config) synced (λ image now. inl (some_has (disk.reads old) IsFree image (sym same ∙ durable image now) free));
  }

  -- a run goes on
  pub made_on : (config : Config) (old middle new : D) → IsMaking disk config old middle → LeavesOnly disk middle new (IsOnTheWay config) → IsMaking disk config old new
  made_on config old middle new making run = record {
    synced = making.synced;
    until = making.until;
    durable = making.durable;
    same = making.same;
    moments = joined disk moments (IsOnTheWay config) making.synced middle new making.moments run;
  }

  pub free_run : (config : Config) (old new : D) → LeavesOnly disk old new IsFree → LeavesOnly disk old new (IsOnTheWay config)
  free_run config old new run = weaker IsFree (IsOnTheWay config) old new (λ image free. inl free) run

  -- nothing but what might have been left before was left, over two runs
  pub left_on : (old middle new : D) → LeavesOnly disk old middle (disk.may_leave old) → LeavesOnly disk middle new (disk.may_leave middle) → LeavesOnly disk old new (disk.may_leave old)
  left_on old middle new one two =
      let last = at_last disk moments (disk.may_leave old) old middle one in
      joined disk moments (disk.may_leave old) old middle new one (weaker (disk.may_leave middle) (disk.may_leave old) middle new last two)
