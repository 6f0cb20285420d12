-- Filters that read are not refused.
use Rattle.std.proofs.Common.{◌≡◌, ℕ, ◌≤◌, zero, suc, Bool, true, false, List, [], ◌∷◌, length, Some, None, refl, subst, arith}
use Rattle.std.specs.Prelude.{◌&&◌, nat_le, slice_get}
use Rattle.std.specs.List.{list_all}
use Rattle.std.proofs.lemmas.Bool.{leb-true}
use Rattle.xml_lexer.specs.Characters.{Text}
use Rattle.node_notes.specs.Forms.{is_config, is_filter, is_link, is_name}
use Rattle.node_notes.specs.declared.config.Config.{Config}
use Rattle.node_notes.specs.declared.config.LinkConfig.{LinkConfig}
use Rattle.filter_text.specs.View.{path_of}
use Rattle.filter_text.specs.Reading.{Reads}
use Rattle.filter_text.specs.declared.filter.Path.{Path}
use Rattle.filter_text.proofs.Exclusion.{not-refused}
use Rattle.path_filter.specs.Links.{AreOf, AreReadable, HasRefused}
use Rattle.path_filter.specs.Sets.{AreRead, Filters, RefusesSet}
use Rattle.path_filter.specs.declared.set_fault.SetFault.{SetFault}
use Rattle.path_filter.specs.declared.set_fault.SetFault.TheVariants.{Refused, TooMany, NoMemory}

pub both : (a b : Bool) → (a && b) ≡ true → (a ≡ true) × (b ≡ true)
both true true e = (refl, refl)
both true false e = absurd (cc)
both false b e = absurd (cc)

reads_at : (set : Filters) (texts : List Text) (at : ℕ) (s : Text) → AreRead set texts → slice_get texts at ≡ Some s → (f : Path) × Reads (path_of f) s
reads_at [] [] at s read found = absurd (cc)
reads_at [] (t ∷ texts) at s read found = absurd read
reads_at (None ∷ set) texts at s read found = absurd read
reads_at (Some f ∷ set) [] at s read found = absurd read
reads_at (Some f ∷ set) (t ∷ texts) zero s read found = (f, let same : t ≡ s = cc in subst (λ (u : Text). Reads (path_of f) u) same read.0)
reads_at (Some f ∷ set) (t ∷ texts) (suc at) s read found = reads_at set texts at s read.1 found

set_at : (sets : List Filters) (links : List LinkConfig) (at : ℕ) (link : LinkConfig) → AreOf sets links → slice_get links at ≡ Some link → (set : Filters) × AreRead set link.filters
set_at [] [] at link are found = absurd (cc)
set_at [] (l ∷ links) at link are found = absurd are
set_at (set ∷ sets) [] at link are found = absurd are
set_at (set ∷ sets) (l ∷ links) zero link are found = (set, let same : l ≡ link = cc in subst (λ (k : LinkConfig). AreRead set k.filters) same are.0)
set_at (set ∷ sets) (l ∷ links) (suc at) link are found = set_at sets links at link are.1 found

link_at : (links : List LinkConfig) (at : ℕ) (link : LinkConfig) → list_all is_link links ≡ true → slice_get links at ≡ Some link → is_link link ≡ true
link_at [] at link all found = absurd (cc)
link_at (l ∷ links) zero link all found = let same : l ≡ link = cc in subst (λ (k : LinkConfig). is_link k ≡ true) same (both (is_link l) (list_all is_link links) all).0
link_at (l ∷ links) (suc at) link all found = link_at links at link (both (is_link l) (list_all is_link links) all).1 found

few : (link : LinkConfig) → is_link link ≡ true → length link.filters ≤ 16
few link is =
    let sized : nat_le (length link.filters) 16 ≡ true =
    (both (is_name link.name) (nat_le (length link.filters) 16) (both (is_name link.name && nat_le (length link.filters) 16) (list_all is_filter link.filters) is).0).1 in
    leb-true (length link.filters) 16 sized

set_reads : (texts : List Text) (set : Filters) (fault : SetFault) → AreRead set texts → length texts ≤ 16 → RefusesSet texts fault → (fault ≡ NoMemory → ⊥) → ⊥
set_reads texts set TooMany read small refused other = omega (arith, refused)
set_reads texts set (Refused at fault) read small (fits, fs, before, s, found, refuses, why) other =
    let f = reads_at set texts at s read found in
    why (not-refused s (path_of f.0) fault f.1 refuses)
set_reads texts set NoMemory read small refused other = other refl

-- a configuration whose filters read has none that is refused
pub none_refused : (config : Config) → is_config config ≡ true → AreReadable config.links → HasRefused config.links → ⊥
unfolding is_config
none_refused config form (sets, are) (at, link, found, fault, refused, other) =
    let set = set_at sets config.links at link are found in
    let all : list_all is_link config.links ≡ true = (both (is_name config.name && nat_le (length config.links) 64) (list_all is_link config.links) form).1 in
    set_reads link.filters set.0 fault set.1 (few link (link_at config.links at link all found)) refused other
