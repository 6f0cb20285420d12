-- A line that breaks no rule keeps a configuration sound.
use Rattle.std.proofs.Common.{◌≡◌, ℕ, zero, suc, ◌+◌, ◌-◌, ◌<◌, ◌≤◌, ◌&&◌, ◌||◌, Bool, true, false, cond, not, List, [], ◌∷◌, ◌++◌, Option, Some, None, Result, Ok, Err, OnOk, codes, length, nat_lt, refl, arith, subst, get_or, slice_get, length-append, length-set, sym, ◌∙◌, drop, ◌==◌}
use Rattle.std.proofs.lemmas.Bool.{false≢true, le-leb, ltb-false}
use Rattle.std.proofs.lemmas.List.Elements.{All-head, All-tail, All-push, All-set}
use Rattle.std.proofs.lemmas.List.Sums.{list_all-from_AllPass}
use Rattle.std.proofs.lemmas.Option.{get_or_from_slice_get, slice_get_within}
use Rattle.std.proofs.lemmas.Str.{IsUtf8-from_ascii, is_utf8-from_IsUtf8}
use Rattle.std.specs.List.{All, list_all, position_or_len, slice_split, onto_first}
use Rattle.std.specs.Str.{bytes_eq}
use Rattle.voe_values.specs.EndName.{is_end_name}
use Rattle.voe_values.specs.declared.kind.NodeKind.{NodeKind}
use Rattle.voe_values.specs.declared.kind.NodeKind.TheVariants.{Author, Broker, Subscriber}
use Rattle.node_notes.specs.declared.config.Config.{Config}
use Rattle.node_notes.specs.declared.config.LinkConfig.{LinkConfig}
use Rattle.node_notes.specs.Forms.{is_name, is_config, is_link, is_filter}
use Rattle.voe_scenario.specs.ConfigGrammar.{ConfigSaid, says_end, says_edge, says_filter, config_line_said, config_words_said, filter_said, named_said}
use Rattle.voe_scenario.specs.ConfigRefusals.{filters_of, last_filters}
use Rattle.voe_scenario.specs.Configs.{AreLinksOf, IsSoundConfig, IsSoundSoFar, with_config_said, with_filter}
use Rattle.voe_scenario.specs.ConfigTaking.{IsConfigFitting}
use Rattle.voe_scenario.specs.Filters.{AreFilters, IsFilter}
use Rattle.voe_scenario.specs.Graphs.{same_kind}
use Rattle.voe_scenario.specs.Words.{behind_word, first_word, is_blank, is_printable, words_of}
use Rattle.voe_scenario.proofs.Printable.{both, printable_ascii}

-- ---- what a line may say

-- the parts of a list of which each element passes are such
passing_first : (q : ℕ → Bool) (x : ℕ) (parts : List (List ℕ)) → q x ≡ true → list_all (list_all q) parts ≡ true → list_all (list_all q) (onto_first x parts) ≡ true
passing_first q x [] passes others = rw passes refl
passing_first q x (part ∷ parts) passes others =
    let split = both (list_all q part) (list_all (list_all q) parts) others in
    rw (passes, split.0, split.1) refl

pub passing_parts : (p q : ℕ → Bool) (xs : List ℕ) → list_all q xs ≡ true → list_all (list_all q) (slice_split p xs) ≡ true
passing_parts p q [] all = refl
passing_parts p q (x ∷ xs) all =
    let split = both (q x) (list_all q xs) all in
    let others = passing_parts p q xs split.1 in
    let choose : (b : Bool) → list_all (list_all q) (cond b ([] ∷ slice_split p xs) (onto_first x (slice_split p xs))) ≡ true
    = λ b. elim b as (λ b. list_all (list_all q) (cond b ([] ∷ slice_split p xs) (onto_first x (slice_split p xs))) ≡ true) [
      | true ↦ others
      | false ↦ passing_first q x (slice_split p xs) split.0 others
    ] in
    choose (p x)

pub passing_rest : (q : ℕ → Bool) (n : ℕ) (xs : List ℕ) → list_all q xs ≡ true → list_all q (drop n xs) ≡ true
passing_rest q zero xs all = all
passing_rest q (suc n) [] all = refl
passing_rest q (suc n) (x ∷ xs) all = passing_rest q n xs (both (q x) (list_all q xs) all).1

-- names are printable, texts of filters aren't empty, and a subscriber has no edges
abbrev pub IsSpoken : Option ConfigSaid → Type 0
IsSpoken None = Unit {0}
IsSpoken (Some (says_end kind name)) = list_all is_printable name ≡ true
IsSpoken (Some (says_edge of name)) = (list_all is_printable name ≡ true) × (same_kind Subscriber of ≡ false)
IsSpoken (Some (says_filter text)) = (0 < length text) × (list_all is_printable text ≡ true)

spoken_cond : (b : Bool) (p q : Option ConfigSaid) → IsSpoken p → IsSpoken q → IsSpoken (cond b p q)
spoken_cond true p q first second = first
spoken_cond false p q first second = second

spoken_if : (b : Bool) (p : Option ConfigSaid) → (b ≡ true → IsSpoken p) → IsSpoken (cond b p None)
spoken_if true p first = first refl
spoken_if false p first = tt

spoken_named : (word name : List ℕ) → list_all is_printable name ≡ true → IsSpoken (named_said word name)
spoken_named word [] printed = tt
spoken_named word (byte ∷ bytes) printed =
    spoken_cond (bytes_eq word (codes "author")) _ _ printed
    (spoken_cond (bytes_eq word (codes "broker")) _ _ printed
    (spoken_cond (bytes_eq word (codes "subscriber")) _ _ printed
    (spoken_cond (bytes_eq word (codes "line")) _ _ (printed, refl)
    (spoken_cond (bytes_eq word (codes "link")) (Some (says_edge Broker (byte ∷ bytes))) None (printed, refl) tt))))

spoken_words : (words : List (List ℕ)) → list_all (list_all is_printable) words ≡ true → IsSpoken (config_words_said words)
spoken_words [] printed = tt
spoken_words (word ∷ []) printed = tt
spoken_words (word ∷ name ∷ []) printed =
    let rest = both (list_all is_printable word) (list_all is_printable name && true) printed in
    spoken_named word name (both (list_all is_printable name) true rest.1).0
spoken_words (word ∷ name ∷ third ∷ others) printed = tt

spoken_filter : (text : List ℕ) → list_all is_printable text ≡ true → IsSpoken (filter_said text)
spoken_filter [] printed = tt
spoken_filter (byte ∷ bytes) printed = (omega arith, printed)

spoken_line : (line : List ℕ) → IsSpoken (config_line_said line)
unfolding config_line_said
spoken_line line =
    spoken_if (list_all is_printable line) _
    (λ printed. spoken_cond (bytes_eq (first_word line) (codes "filter")) (filter_said (behind_word line)) (config_words_said (words_of line))
    (spoken_filter (behind_word line) (passing_rest is_printable (position_or_len is_blank line + 1) line printed)) (spoken_words (words_of line) (passing_parts (λ b. b == 32) is_printable line printed)))

-- ---- what it keeps

-- a printable end name is one
name_kept : (name : List ℕ) → list_all is_printable name ≡ true → not (is_end_name name) ≡ false → is_name name ≡ true
unfolding is_name
name_kept name printed named =
    let text = is_utf8-from_IsUtf8 name (IsUtf8-from_ascii name (printable_ascii name printed)) in
    rw text (truth (is_end_name name) named)
  where
    truth : (b : Bool) → not b ≡ false → b ≡ true
    truth true is = refl
    truth false is = absurd (false≢true (sym is))

pub neither : (a b : Bool) → (a || b) ≡ false → (a ≡ false) × (b ≡ false)
neither true b is = absurd (false≢true (sym is))
neither false b is = (refl, is)

pub at_most : (m n : ℕ) → nat_lt m n ≡ false → n ≤ m
at_most m n is = ltb-false m n is

pub no_filters : AreFilters []
no_filters = record {
  few = omega arith;
  some = λ k d h. absurd (omega arith);
  short = λ k d h. absurd (omega arith);
  form = λ k d h. absurd (omega arith);
  read = λ k d h. absurd (omega arith);
}

-- a printable text that is short enough keeps to its form
text_form : (text : List ℕ) → list_all is_printable text ≡ true → length text ≤ 1024 → is_filter text ≡ true
unfolding is_filter
text_form text printed short =
    rw (is_utf8-from_IsUtf8 text (IsUtf8-from_ascii text (printable_ascii text printed)), le-leb (length text) 1024 short) refl

pub filters_pushed : (texts : List (List ℕ)) (text : List ℕ) → AreFilters texts → length texts ≤ 15 → IsSpoken (Some (says_filter text)) → length text ≤ 1024 → IsFilter text
    → AreFilters (texts ++ text ∷ [])
filters_pushed texts text filters room some short read = record {
  few = omega (arith, length-append texts (text ∷ []));
  some = All-push (λ t. 0 < length t) texts text filters.some some.0;
  short = All-push (λ t. length t ≤ 1024) texts text filters.short short;
  form = All-push (λ t. is_filter t ≡ true) texts text filters.form (text_form text some.1 short);
  read = All-push IsFilter texts text filters.read read;
}

no_links : (kind : NodeKind) → AreLinksOf kind []
no_links Author = λ k d h. absurd (omega arith)
no_links Broker = tt
no_links Subscriber = refl

link_pushed : (kind of : NodeKind) (links : List LinkConfig) (link : LinkConfig) → same_kind kind of ≡ true → same_kind Subscriber of ≡ false → link.filters ≡ []
    → AreLinksOf kind links → AreLinksOf kind (links ++ link ∷ [])
link_pushed Author of links link same isnt none before = All-push (λ l. l.filters ≡ []) links link before none
link_pushed Broker of links link same isnt none before = tt
link_pushed Subscriber of links link same isnt none before = absurd (false≢true (sym isnt ∙ same))

filtered_kind : (kind : NodeKind) (links : List LinkConfig) → same_kind kind Broker ≡ true → AreLinksOf kind links
filtered_kind Author links is = absurd (false≢true is)
filtered_kind Broker links is = tt
filtered_kind Subscriber links is = absurd (false≢true is)

edge_kept : (config : Config) (of : NodeKind) (name : List ℕ) → IsSoundConfig config → IsSpoken (Some (says_edge of name)) → is_name name ≡ true
    → same_kind config.kind of ≡ true → length config.links ≤ 63
    → IsSoundConfig (record config { links = config.links ++ record { name = name; filters = [] } ∷ [] })
edge_kept config of name sound spoken named kind room =
    let link : LinkConfig = record { name = name; filters = [] } in
    record {
      name = sound.name;
      names = All-push (λ l. is_name l.name ≡ true) config.links link sound.names named;
      few = omega (arith, length-append config.links (link ∷ []));
      filters = All-push (λ l. AreFilters l.filters) config.links link sound.filters no_filters;
      kind = link_pushed config.kind of config.links link kind spoken.1 refl sound.kind;
    }

-- what holds of each link holds of the last
of_last : (P : LinkConfig → Type 0) (links : List LinkConfig) (at : ℕ) (link : LinkConfig) → slice_get links at ≡ Some link
    → ((k : ℕ) (d : LinkConfig) → k < length links → P (get_or links k d)) → P link
of_last P links at link is all = subst P (get_or_from_slice_get links at link link is) (all at link (slice_get_within links at link is))

filter_kept : (config : Config) (text : List ℕ) (last : Option LinkConfig) → last ≡ slice_get config.links (length config.links - 1) → IsSoundConfig config
    → same_kind config.kind Broker ≡ true → IsSpoken (Some (says_filter text)) → length text ≤ 1024 → length (filters_of last) ≤ 15 → IsFilter text
    → IsSoundConfig (record config { links = with_filter config.links text last })
filter_kept config text None is sound kind some short room read = sound
filter_kept config text (Some link) is sound kind some short room read =
    let at = length config.links - 1 in
    let more : LinkConfig = record link { filters = link.filters ++ text ∷ [] } in
    let named = of_last (λ l. is_name l.name ≡ true) config.links at link (sym is) sound.names in
    let filtered = of_last (λ l. AreFilters l.filters) config.links at link (sym is) sound.filters in
    record {
      name = sound.name;
      names = All-set (λ l. is_name l.name ≡ true) config.links at more named sound.names;
      few = rw length-set sound.few;
      filters = All-set (λ l. AreFilters l.filters) config.links at more (filters_pushed link.filters text filtered room some short read) sound.filters;
      kind = filtered_kind config.kind _ kind;
    }

pub kept : (before : Option Config) (line : List ℕ) (said : ConfigSaid) → IsSoundSoFar before → IsConfigFitting before line said → IsSoundSoFar (with_config_said before (Some said))
kept None line (says_end kind name) sound fitting =
    let spoken = subst IsSpoken fitting.says (spoken_line line) in
    record {
      name = name_kept name spoken fitting.follows.named;
      names = λ k d h. absurd (omega arith);
      few = omega arith;
      filters = λ k d h. absurd (omega arith);
      kind = no_links kind;
    }
kept None line (says_edge of name) sound fitting = tt
kept None line (says_filter text) sound fitting = tt
kept (Some config) line (says_end kind name) sound fitting = sound
kept (Some config) line (says_edge of name) sound fitting =
    let spoken = subst IsSpoken fitting.says (spoken_line line) in
    let within = neither (nat_lt 512 (length name)) (nat_lt 63 (length config.links)) fitting.follows.within in
    edge_kept config of name sound spoken (name_kept name spoken.0 fitting.follows.named) fitting.follows.placed (at_most 63 (length config.links) within.1)
kept (Some config) line (says_filter text) sound fitting =
    let spoken = subst IsSpoken fitting.says (spoken_line line) in
    let within = neither (nat_lt 1024 (length text)) (nat_lt 15 (length (last_filters config.links))) fitting.follows.within in
    let placed = both (same_kind config.kind Broker) (nat_lt 0 (length config.links)) fitting.follows.placed in
    filter_kept config text (slice_get config.links (length config.links - 1)) refl sound placed.0 spoken
    (at_most 1024 (length text) within.0) (at_most 15 (length (last_filters config.links)) within.1) fitting.reads

-- ---- its form

link_form : (link : LinkConfig) → is_name link.name ≡ true → AreFilters link.filters → is_link link ≡ true
link_form link named filters =
    rw (named, le-leb (length link.filters) 16 filters.few, list_all-from_AllPass is_filter link.filters filters.form) refl

links_form : (links : List LinkConfig) → All (λ l. is_name l.name ≡ true) links → All (λ l. AreFilters l.filters) links → list_all is_link links ≡ true
links_form [] named filters = refl
links_form (link ∷ links) named filters =
    let first = link_form link (All-head (λ l. is_name l.name ≡ true) link links named) (All-head (λ l. AreFilters l.filters) link links filters) in
    let others = links_form links (All-tail (λ l. is_name l.name ≡ true) link links named) (All-tail (λ l. AreFilters l.filters) link links filters) in
    rw (first, others) refl

pub config_form : (config : Config) → IsSoundConfig config → is_config config ≡ true
unfolding is_config
config_form config sound =
    rw (sound.name, le-leb (length config.links) 64 sound.few, links_form config.links sound.names sound.filters) refl

-- what was added, where something was, keeps the configuration sound
pub kept_where : {A E : Type 0} (answer : Result A E) (before after : Option Config) (line : List ℕ) (said : ConfigSaid)
    → IsSoundSoFar before → IsConfigFitting before line said → OnOk answer (after ≡ with_config_said before (Some said)) → OnOk answer (IsSoundSoFar after)
kept_where (Ok done) before after line said sound fitting added = rw added (kept before line said sound fitting)
kept_where (Err fault) before after line said sound fitting added = tt
