-- What the machine has read, and that some sentence goes on with it.
use Rattle.std.proofs.Common.{◌≡◌, Bool, true, false, List, [], ◌∷◌, ◌++◌, Option, Some, None, refl, sym, ◌∙◌, ap, subst, append_assoc, append-nil, cond}
use Rattle.std.specs.Prelude.{codes, is_none, ◌&&◌}
use Rattle.xml_lexer.proofs.Runs.{both as both-true}
use Rattle.std.specs.Str.{bytes_eq}
use Rattle.std.specs.Cmp.Lexicographic.{bytes_decides}
use Rattle.filter_text.specs.Filter.{Text, Axis, child, Path, path, Steps, arrived, Condition, not_so, Conditions, no_more, more, Operand, found, local_name, Test, any, Comparison}
use Rattle.filter_text.specs.Filter as filter
use Rattle.filter_tokens.specs.Token.{slash, double_slash, opening_bracket, closing_bracket, opening_parenthesis, closing_parenthesis, at_sign, star, equals, differs, name, literal}
use Rattle.filter_text.specs.Grammar.{Symbol, plain, not_function, local_name_function, and_word, or_word, joined, either, both, either_list, both_list, IsSeparator, to_children, to_descendants, IsTest, of_name, of_any, IsComparison, is_equal, is_different, IsPath, from_document, from_element, IsStep, of_attribute, last, goes_on, AreBracketed, no_bracket, bracket, IsCondition, conjunct, or, IsConjunct, simple, and, IsSimple, negated, grouped, operand, IsOperand, of_path, of_literal, of_function}
use Rattle.filter_text.specs.Grammar as grammar
use Rattle.filter_text.specs.Reading.{GoesOn}
use Rattle.filter_text.specs.Machine.{Left, Level, Way, State, start, not_opening, function_opening, function_closing, step, attribute_test, behind_step, behind_operand, behind_condition, Opening, parenthesis, Machine, before, or_none, either_all, both_all, whole, compared, path_to, relative, absolute, next_step, or_level, and_level, close, close_bracket, close_parenthesis, word, open_group, open_not, comparison_in, compare, behind, advance, part_read, is_empty, path_read}
use Rattle.filter_text.specs.Machine as machine
use Rattle.filter_text.proofs.Lists.{before-assoc, either_all-more, both_all-more}

-- these symbols were read as the conjuncts
pub record OrsOk (ts : List Symbol) (ors : Option Conditions) : Type 0 where
  pub empty : ors ≡ None → ts ≡ []
  pub fits : (us : List Symbol) (c : Condition) → IsCondition us c → IsCondition (ts ++ us) (either_all ors c)

pub record AndsOk (ts : List Symbol) (ands : Option Conditions) : Type 0 where
  pub empty : ands ≡ None → ts ≡ []
  pub fits : (us : List Symbol) (c : Condition) → IsConjunct us c → IsConjunct (ts ++ us) (both_all ands c)

pub record LeftOk (ts : List Symbol) (left : Option Left) : Type 0 where
  pub empty : left ≡ None → ts ≡ []
  pub fits : (us : List Symbol) (o : Operand) → IsOperand us o → IsSimple (ts ++ us) (compared left o)

pub record BaseOk (ts : List Symbol) (level : Level) : Type 0 where
  pub os : List Symbol
  pub ns : List Symbol
  pub is : ts ≡ os ++ ns
  pub ors : OrsOk os level.ors
  pub ands : AndsOk ns level.ands

pub record LevelOk (ts : List Symbol) (level : Level) : Type 0 where
  pub bs : List Symbol
  pub ls : List Symbol
  pub is : ts ≡ bs ++ ls
  pub base : BaseOk bs level
  pub left : LeftOk ls level.left

abbrev pub WayOk : List Symbol → Way → Type 0
WayOk ts way = (us : List Symbol) (ss : Steps) → IsStep way.axis us ss → IsPath (ts ++ us) (path way.absolute (before way.steps ss))

abbrev pub StateOk : State → List Symbol → Type 0
StateOk (start level) ts = LevelOk ts level
StateOk (not_opening level) ts = (bs : List Symbol) × BaseOk bs level × (ts ≡ bs ++ not_function ∷ [])
StateOk (function_opening level) ts = (ls : List Symbol) × LevelOk ls level × (ts ≡ ls ++ local_name_function ∷ [])
StateOk (function_closing level) ts = (ls : List Symbol) × LevelOk ls level × (ts ≡ ls ++ local_name_function ∷ plain opening_parenthesis ∷ [])
StateOk (step level way) ts = (ls ws : List Symbol) × LevelOk ls level × WayOk ws way × (ts ≡ ls ++ ws)
StateOk (attribute_test level way) ts = (ls ws : List Symbol) × LevelOk ls level × WayOk ws way × (ts ≡ ls ++ (ws ++ plain at_sign ∷ []))
StateOk (behind_step level way test cs) ts =
    (ls ws : List Symbol) × (t : Symbol) × (bs : List Symbol) × LevelOk ls level × WayOk ws way × IsTest t test × AreBracketed bs cs × (ts ≡ ls ++ (ws ++ t ∷ bs))
StateOk (behind_operand level o) ts = (ls os : List Symbol) × LevelOk ls level × IsOperand os o × (ts ≡ ls ++ os)
StateOk (behind_condition level c) ts = (bs us : List Symbol) × BaseOk bs level × IsSimple us c × (ts ≡ bs ++ us)

abbrev pub opened : Bool → List Symbol
opened true = not_function ∷ plain opening_parenthesis ∷ []
opened false = plain opening_parenthesis ∷ []

abbrev pub StackOk : List Opening → List Symbol → Type 0
StackOk [] ts = ts ≡ []
StackOk (machine.bracket level way test cs ∷ stack) ts =
    (front ss : List Symbol) × StackOk stack front × StateOk (behind_step level way test cs) ss × (ts ≡ front ++ (ss ++ plain opening_bracket ∷ []))
StackOk (parenthesis level turned ∷ stack) ts = (front bs : List Symbol) × StackOk stack front × BaseOk bs level × (ts ≡ front ++ (bs ++ opened turned))

abbrev pub MachineOk : Machine → List Symbol → Type 0
MachineOk m ts = (front ss : List Symbol) × StackOk m.stack front × StateOk m.state ss × (ts ≡ front ++ ss)

abbrev pub ResultOk : Option Machine → List Symbol → Type 0
ResultOk None ts = Unit {0}
ResultOk (Some m) ts = MachineOk m ts

-- ---- what the parts make

nothing_base : BaseOk [] machine.nothing_read
nothing_base = record {
  os = [];
  ns = [];
  is = refl;
  ors = record { empty = λ e. refl; fits = λ us c is. is };
  ands = record { empty = λ e. refl; fits = λ us c is. is };
}

no_left : LeftOk [] None
no_left = record { empty = λ e. refl; fits = λ us o is. operand us o is }

nothing : LevelOk [] machine.nothing_read
nothing = record { bs = []; ls = []; is = refl; base = nothing_base; left = no_left }

cast-condition : (ts us : List Symbol) (c : Condition) → ts ≡ us → IsCondition us c → IsCondition ts c
cast-condition ts us c e is = subst (λ (x : List Symbol). IsCondition x c) (sym e) is

-- a part makes the whole
whole-is : (bs us : List Symbol) (level : Level) (c : Condition) → BaseOk bs level → IsSimple us c → IsCondition (bs ++ us) (whole level c)
whole-is bs us level c base is =
    let conj = base.ands.fits us c (simple us c is) in
    cast-condition (bs ++ us) (base.os ++ (base.ns ++ us)) (whole level c) (ap (λ x. x ++ us) base.is ∙ append_assoc base.os base.ns us)
    (base.ors.fits (base.ns ++ us) (both_all level.ands c) (conjunct (base.ns ++ us) (both_all level.ands c) conj))

part-is : (ls us : List Symbol) (level : Level) (o : Operand) (ok : LevelOk ls level) → IsOperand us o → IsSimple (ok.ls ++ us) (compared level.left o)
part-is ls us level o ok is = ok.left.fits us o is

or-level : (bs us : List Symbol) (level : Level) (c : Condition) → BaseOk bs level → IsSimple us c → LevelOk ((bs ++ us) ++ or_word ∷ []) (or_level level c)
or-level bs us level c base is =
    let conj = base.ands.fits us c (simple us c is) in
    let os = base.os ++ ((base.ns ++ us) ++ or_word ∷ []) in
    record {
      bs = os;
      ls = [];
      is = ap (λ x. (x ++ us) ++ or_word ∷ []) base.is ∙ simp (append_assoc, append-nil);
      base = record {
        os = os;
        ns = [];
        is = sym (append-nil os);
        ors = record {
          empty = λ e. absurd (let bad : ⊥ = cc in bad);
          fits = λ vs d more. (let D : Condition = both_all level.ands c in
              subst (λ (x : Condition). IsCondition (os ++ vs) x) (sym (either_all-more level.ors D d))
              (cast-condition (os ++ vs) (base.os ++ ((base.ns ++ us) ++ or_word ∷ vs)) (either_all level.ors (either D d)) (simp append_assoc)
              (base.ors.fits ((base.ns ++ us) ++ or_word ∷ vs) (either D d) (or (base.ns ++ us) vs D d conj more))));
        };
        ands = record { empty = λ e. refl; fits = λ vs d more. more };
      };
      left = no_left;
    }

cast-conjunct : (ts us : List Symbol) (c : Condition) → ts ≡ us → IsConjunct us c → IsConjunct ts c
cast-conjunct ts us c e is = subst (λ (x : List Symbol). IsConjunct x c) (sym e) is

and-level : (bs us : List Symbol) (level : Level) (c : Condition) → BaseOk bs level → IsSimple us c → LevelOk ((bs ++ us) ++ and_word ∷ []) (and_level level c)
and-level bs us level c base is =
    let ns = base.ns ++ (us ++ and_word ∷ []) in
    record {
      bs = base.os ++ ns;
      ls = [];
      is = ap (λ x. (x ++ us) ++ and_word ∷ []) base.is ∙ simp (append_assoc, append-nil);
      base = record {
        os = base.os;
        ns = ns;
        is = refl;
        ors = base.ors;
        ands = record {
          empty = λ e. absurd (let bad : ⊥ = cc in bad);
          fits = λ vs d more. subst (λ (x : Condition). IsConjunct (ns ++ vs) x) (sym (both_all-more level.ands c d))
              (cast-conjunct (ns ++ vs) (base.ns ++ (us ++ and_word ∷ vs)) (both_all level.ands (both c d)) (simp append_assoc)
              (base.ands.fits (us ++ and_word ∷ vs) (both c d) (and us vs c d is more)));
        };
      };
      left = no_left;
    }

bracketed-more : (bs us : List Symbol) (cs : Conditions) (c : Condition) → AreBracketed bs cs → IsCondition us c → AreBracketed (bs ++ (plain opening_bracket ∷ us ++ plain closing_bracket ∷ [])) (joined cs (more c no_more))
bracketed-more bs us cs c no_bracket is = bracket us [] c no_more is no_bracket
bracketed-more bs us cs c (bracket ts vs d ds isd others) is =
    let rest = bracketed-more vs us ds c others is in
    let X : List Symbol = plain opening_bracket ∷ us ++ plain closing_bracket ∷ [] in
    subst (λ (x : List Symbol). AreBracketed (plain opening_bracket ∷ x) (more d (joined ds (more c no_more)))) (sym (append_assoc ts (plain closing_bracket ∷ vs) X))
    (bracket ts (vs ++ X) d (joined ds (more c no_more)) isd rest)

way-next : (ws bs : List Symbol) (t s : Symbol) (way : Way) (test : Test) (cs : Conditions) (axis : Axis) → WayOk ws way → IsTest t test → AreBracketed bs cs → IsSeparator s axis →
    WayOk ((ws ++ t ∷ bs) ++ s ∷ []) (next_step way test cs axis)
way-next ws bs t s way test cs axis ok is b sep us ss st =
    let Q : Steps = filter.step way.axis filter.element test cs arrived in
    let e : ((ws ++ t ∷ bs) ++ s ∷ []) ++ us ≡ ws ++ (t ∷ bs ++ s ∷ us) = simp append_assoc in
    subst (λ (x : List Symbol). IsPath x (path way.absolute (before (before way.steps Q) ss))) (sym e)
    (subst (λ (x : Steps). IsPath (ws ++ (t ∷ bs ++ s ∷ us)) (path way.absolute x)) (sym (before-assoc way.steps Q ss))
    (ok (t ∷ bs ++ s ∷ us) (filter.step way.axis filter.element test cs ss) (goes_on way.axis axis t s test bs us cs ss is b sep st)))

-- behind a step
step-operand : (ws bs : List Symbol) (t : Symbol) (way : Way) (test : Test) (cs : Conditions) → WayOk ws way → IsTest t test → AreBracketed bs cs → IsPath (ws ++ t ∷ bs) (path_to way test cs)
step-operand ws bs t way test cs ok is b = ok (t ∷ bs) (filter.step way.axis filter.element test cs arrived) (last way.axis t test bs cs is b)

-- ---- one symbol more

word-sound : (n : Text) (level : Level) (c : Condition) (stack : List Opening) (front bs us : List Symbol) → StackOk stack front → BaseOk bs level → IsSimple us c →
    ResultOk (word level c n stack) (front ++ ((bs ++ us) ++ plain (name n) ∷ []))
word-sound n level c stack front bs us st base is =
    elim (bytes_eq n (codes "and")) as (λ b. bytes_eq n (codes "and") ≡ b → ResultOk (cond b (machine.into (start (and_level level c)) stack) (cond (bytes_eq n (codes "or")) (machine.into (start (or_level level c)) stack) None)) (front ++ ((bs ++ us) ++ plain (name n) ∷ []))) [
      | true ↦ λ e. (front, (bs ++ us) ++ and_word ∷ [], st, and-level bs us level c base is, ap (λ x. front ++ ((bs ++ us) ++ plain (name x) ∷ [])) ((bytes_decides n (codes "and")).0 e))
      | false ↦ λ e. elim (bytes_eq n (codes "or")) as (λ b. bytes_eq n (codes "or") ≡ b → ResultOk (cond b (machine.into (start (or_level level c)) stack) None) (front ++ ((bs ++ us) ++ plain (name n) ∷ []))) [
        | true ↦ λ f. (front, (bs ++ us) ++ or_word ∷ [], st, or-level bs us level c base is, ap (λ x. front ++ ((bs ++ us) ++ plain (name x) ∷ [])) ((bytes_decides n (codes "or")).0 f))
        | false ↦ λ f. tt
      ] refl
    ] refl

bracket-sound : (c : Condition) (stack : List Opening) (front us : List Symbol) → StackOk stack front → IsCondition us c → ResultOk (close_bracket c stack) (front ++ (us ++ plain closing_bracket ∷ []))
bracket-sound c [] front us st is = tt
bracket-sound c (parenthesis level turned ∷ stack) front us st is = tt
bracket-sound c (machine.bracket level way test cs ∷ stack) front us (outer, ss, st, (ls, ws, t, bs, lv, w, it, b, e), f) is =
    let X : List Symbol = plain opening_bracket ∷ us ++ plain closing_bracket ∷ [] in (
      outer,
      ls ++ (ws ++ t ∷ (bs ++ X)),
      st,
      (ls, ws, t, bs ++ X, lv, w, it, bracketed-more bs us cs c b is, refl),
      ap (λ x. x ++ (us ++ plain closing_bracket ∷ [])) (f ∙ ap (λ x. outer ++ (x ++ plain opening_bracket ∷ [])) e) ∙ simp append_assoc,
    )

parenthesis-is : (negated_one : Bool) (us : List Symbol) (c : Condition) → IsCondition us c → IsSimple (opened negated_one ++ (us ++ plain closing_parenthesis ∷ [])) (machine.negated_or_not negated_one c)
parenthesis-is true us c is = negated us c is
parenthesis-is false us c is = grouped us c is

parenthesis-sound : (c : Condition) (stack : List Opening) (front us : List Symbol) → StackOk stack front → IsCondition us c → ResultOk (close_parenthesis c stack) (front ++ (us ++ plain closing_parenthesis ∷ []))
parenthesis-sound c [] front us st is = tt
parenthesis-sound c (machine.bracket level way test cs ∷ stack) front us st is = tt
parenthesis-sound c (parenthesis level turned ∷ stack) front us (outer, bs, st, base, f) is =
    let X : List Symbol = opened turned ++ (us ++ plain closing_parenthesis ∷ []) in
    (outer, bs ++ X, st, (bs, X, base, parenthesis-is turned us c is, refl), ap (λ x. x ++ (us ++ plain closing_parenthesis ∷ [])) f ∙ simp append_assoc)

close-sound : (s : Symbol) (level : Level) (c : Condition) (stack : List Opening) (front bs us : List Symbol) → StackOk stack front → BaseOk bs level → IsSimple us c →
    ResultOk (close level c s stack) (front ++ ((bs ++ us) ++ s ∷ []))
close-sound (plain (name n)) level c stack front bs us st base is = word-sound n level c stack front bs us st base is
close-sound (plain closing_bracket) level c stack front bs us st base is = bracket-sound (whole level c) stack front (bs ++ us) st (whole-is bs us level c base is)
close-sound (plain closing_parenthesis) level c stack front bs us st base is = parenthesis-sound (whole level c) stack front (bs ++ us) st (whole-is bs us level c base is)
close-sound s level c stack front bs us st base is = tt

comparison-is : (s : Symbol) (how : Comparison) → comparison_in s ≡ Some how → IsComparison s how
comparison-is (plain equals) how e = subst (λ (h : Comparison). IsComparison (plain equals) h) (let f : filter.equal ≡ how = cc in f) is_equal
comparison-is (plain differs) how e = subst (λ (h : Comparison). IsComparison (plain differs) h) (let f : filter.differs ≡ how = cc in f) is_different
comparison-is s how e = absurd (let bad : ⊥ = cc in bad)

compare-sound : (how : Option Comparison) (left : Option Left) (s : Symbol) (level : Level) (o : Operand) (stack : List Opening) (front ls os : List Symbol) → comparison_in s ≡ how → level.left ≡ left →
    StackOk stack front → LevelOk ls level → IsOperand os o → ResultOk (compare level o how left s stack) (front ++ ((ls ++ os) ++ s ∷ []))
compare-sound (Some how) None s level o stack front ls os h l st ok is =
    let none : ok.ls ≡ [] = ok.left.empty l in (
      front,
      (ls ++ os) ++ s ∷ [],
      st,
      record {
        bs = ok.bs;
        ls = os ++ s ∷ [];
        is = ap (λ x. (x ++ os) ++ s ∷ []) (ok.is ∙ ap (λ x. ok.bs ++ x) none ∙ append-nil ok.bs) ∙ append_assoc ok.bs os (s ∷ []);
        base = record { os = ok.base.os; ns = ok.base.ns; is = ok.base.is; ors = ok.base.ors; ands = ok.base.ands };
        left = record {
          empty = λ e. absurd (let bad : ⊥ = cc in bad);
          fits = λ us b more. subst (λ (x : List Symbol). IsSimple x (filter.compare o how b)) (sym (append_assoc os (s ∷ []) us)) (grammar.compared os us s how o b is (comparison-is s how h) more);
        };
      },
      refl,
    )
compare-sound (Some how) (Some l) s level o stack front ls os h e st ok is =
    let part : IsSimple (ok.ls ++ os) (compared (Some l) o) = subst (λ (x : Option Left). IsSimple (ok.ls ++ os) (compared x o)) e (ok.left.fits os o is) in
    let r = close-sound s level (compared (Some l) o) stack front ok.bs (ok.ls ++ os) st ok.base part in
    let f : (ok.bs ++ (ok.ls ++ os)) ++ s ∷ [] ≡ (ls ++ os) ++ s ∷ [] = sym (ap (λ x. (x ++ os) ++ s ∷ []) ok.is ∙ ap (λ x. x ++ s ∷ []) (append_assoc ok.bs ok.ls os)) in
    subst (λ (x : List Symbol). ResultOk (close level (compared (Some l) o) s stack) (front ++ x)) f r
compare-sound None left s level o stack front ls os h e st ok is =
    let part : IsSimple (ok.ls ++ os) (compared left o) = subst (λ (x : Option Left). IsSimple (ok.ls ++ os) (compared x o)) e (ok.left.fits os o is) in
    let r = close-sound s level (compared left o) stack front ok.bs (ok.ls ++ os) st ok.base part in
    let f : (ok.bs ++ (ok.ls ++ os)) ++ s ∷ [] ≡ (ls ++ os) ++ s ∷ [] = sym (ap (λ x. (x ++ os) ++ s ∷ []) ok.is ∙ ap (λ x. x ++ s ∷ []) (append_assoc ok.bs ok.ls os)) in
    subst (λ (x : List Symbol). ResultOk (close level (compared left o) s stack) (front ++ x)) f r

behind-sound : (s : Symbol) (level : Level) (o : Operand) (stack : List Opening) (front ls os ss : List Symbol) → StackOk stack front → LevelOk ls level → IsOperand os o → ss ≡ ls ++ os →
    ResultOk (behind level o s stack) (front ++ (ss ++ s ∷ []))
behind-sound s level o stack front ls os ss st ok is e =
    subst (λ (x : List Symbol). ResultOk (behind level o s stack) (front ++ (x ++ s ∷ []))) (sym e) (compare-sound (comparison_in s) level.left s level o stack front ls os refl refl st ok is)

-- the level that a group opens in
group-sound : (level : Level) (negated_one : Bool) (left : Option Left) (stack : List Opening) (front ts bs : List Symbol) → StackOk stack front → (left ≡ None → ts ≡ bs ++ opened negated_one) → BaseOk bs level →
    ResultOk (open_group level negated_one left stack) (front ++ ts)
group-sound level negated_one None stack front ts bs st e base = (front ++ (bs ++ opened negated_one), [], (front, bs, st, base, refl), nothing, ap (λ x. front ++ x) (e refl) ∙ sym (append-nil (front ++ (bs ++ opened negated_one))))
group-sound level negated_one (Some l) stack front ts bs st e base = tt

not-sound : (level : Level) (left : Option Left) (stack : List Opening) (front ss : List Symbol) → StackOk stack front → level.left ≡ left → LevelOk ss level → ResultOk (open_not level left stack) (front ++ (ss ++ not_function ∷ []))
not-sound level None stack front ss st l ok =
    (front, ss ++ not_function ∷ [], st, (ok.bs, ok.base, ap (λ x. x ++ not_function ∷ []) (ok.is ∙ ap (λ x. ok.bs ++ x) (ok.left.empty l) ∙ append-nil ok.bs)), refl)
not-sound level (Some l) stack front ss st e ok = tt

star-step : (axis : Axis) → IsStep axis (plain star ∷ []) (filter.step axis filter.element any no_more arrived)
star-step axis = last axis (plain star) any [] no_more of_any no_bracket

relative-ok : WayOk [] relative
relative-ok us ss is = from_element us ss is

absolute-ok : (s : Symbol) (axis : Axis) → IsSeparator s axis → WayOk (s ∷ []) (absolute axis)
absolute-ok s axis sep us ss is = from_document s axis us ss sep is

to-function : (level : Level) (stack : List Opening) (front ss : List Symbol) → StackOk stack front → LevelOk ss level → ResultOk (Some (record { state = function_opening level; stack = stack })) (front ++ (ss ++ local_name_function ∷ []))
to-function level stack front ss st ok = (front, ss ++ local_name_function ∷ [], st, (ss, ok, refl), refl)

pub step-sound : (st : State) (s : Symbol) (stack : List Opening) (front ss : List Symbol) → StackOk stack front → StateOk st ss → ResultOk (advance st s stack) (front ++ (ss ++ s ∷ []))
step-sound (start level) (plain opening_parenthesis) stack front ss ok l =
    group-sound level false level.left stack front (ss ++ plain opening_parenthesis ∷ []) l.bs ok (λ e. ap (λ x. x ++ plain opening_parenthesis ∷ []) (l.is ∙ ap (λ x. l.bs ++ x) (l.left.empty e) ∙ append-nil l.bs)) l.base
step-sound (start level) not_function stack front ss ok l = not-sound level level.left stack front ss ok refl l
step-sound (start level) (plain slash) stack front ss ok l = (front, ss ++ plain slash ∷ [], ok, (ss, plain slash ∷ [], l, absolute-ok (plain slash) child to_children, refl), refl)
step-sound (start level) (plain double_slash) stack front ss ok l = (front, ss ++ plain double_slash ∷ [], ok, (ss, plain double_slash ∷ [], l, absolute-ok (plain double_slash) filter.descendant to_descendants, refl), refl)
step-sound (start level) (plain at_sign) stack front ss ok l = (front, ss ++ plain at_sign ∷ [], ok, (ss, [], l, relative-ok, refl), refl)
step-sound (start level) (plain star) stack front ss ok l = (front, ss ++ plain star ∷ [], ok, (ss, [], plain star, [], l, relative-ok, of_any, no_bracket, refl), refl)
step-sound (start level) (plain (name n)) stack front ss ok l = (front, ss ++ plain (name n) ∷ [], ok, (ss, [], plain (name n), [], l, relative-ok, of_name n, no_bracket, refl), refl)
step-sound (start level) (plain (literal v)) stack front ss ok l = (front, ss ++ plain (literal v) ∷ [], ok, (ss, plain (literal v) ∷ [], l, of_literal v, refl), refl)
step-sound (start level) local_name_function stack front ss ok l = to-function level stack front ss ok l
step-sound (start level) s stack front ss ok l = tt
step-sound (not_opening level) (plain opening_parenthesis) stack front ss ok (bs, base, e) =
    group-sound level true None stack front (ss ++ plain opening_parenthesis ∷ []) bs ok (λ n. ap (λ x. x ++ plain opening_parenthesis ∷ []) e ∙ append_assoc bs (not_function ∷ []) (plain opening_parenthesis ∷ [])) base
step-sound (not_opening level) s stack front ss ok l = tt
step-sound (function_opening level) (plain opening_parenthesis) stack front ss ok (ls, l, e) =
    (front, ss ++ plain opening_parenthesis ∷ [], ok, (ls, l, ap (λ x. x ++ plain opening_parenthesis ∷ []) e ∙ append_assoc ls (local_name_function ∷ []) (plain opening_parenthesis ∷ [])), refl)
step-sound (function_opening level) s stack front ss ok l = tt
step-sound (function_closing level) (plain closing_parenthesis) stack front ss ok (ls, l, e) = (
  front,
  ss ++ plain closing_parenthesis ∷ [],
  ok,
  (ls, local_name_function ∷ plain opening_parenthesis ∷ plain closing_parenthesis ∷ [], l, of_function, ap (λ x. x ++ plain closing_parenthesis ∷ []) e ∙ append_assoc ls (local_name_function ∷ plain opening_parenthesis ∷ []) (plain closing_parenthesis ∷ [])),
  refl,
)
step-sound (function_closing level) s stack front ss ok l = tt
step-sound (step level way) (plain at_sign) stack front ss ok (ls, ws, l, w, e) =
    (front, ss ++ plain at_sign ∷ [], ok, (ls, ws, l, w, ap (λ x. x ++ plain at_sign ∷ []) e ∙ append_assoc ls ws (plain at_sign ∷ [])), refl)
step-sound (step level way) (plain star) stack front ss ok (ls, ws, l, w, e) =
    (front, ss ++ plain star ∷ [], ok, (ls, ws, plain star, [], l, w, of_any, no_bracket, ap (λ x. x ++ plain star ∷ []) e ∙ append_assoc ls ws (plain star ∷ [])), refl)
step-sound (step level way) (plain (name n)) stack front ss ok (ls, ws, l, w, e) =
    (front, ss ++ plain (name n) ∷ [], ok, (ls, ws, plain (name n), [], l, w, of_name n, no_bracket, ap (λ x. x ++ plain (name n) ∷ []) e ∙ append_assoc ls ws (plain (name n) ∷ [])), refl)
step-sound (step level way) s stack front ss ok l = tt
step-sound (attribute_test level way) (plain star) stack front ss ok (ls, ws, l, w, e) = (
  front,
  ss ++ plain star ∷ [],
  ok,
  (ls, ws ++ plain at_sign ∷ plain star ∷ [], l, of_path _ _ (w (plain at_sign ∷ plain star ∷ []) _ (of_attribute way.axis (plain star) any of_any)), ap (λ x. x ++ plain star ∷ []) e ∙ simp append_assoc),
  refl,
)
step-sound (attribute_test level way) (plain (name n)) stack front ss ok (ls, ws, l, w, e) = (
  front,
  ss ++ plain (name n) ∷ [],
  ok,
  (ls, ws ++ plain at_sign ∷ plain (name n) ∷ [], l, of_path _ _ (w (plain at_sign ∷ plain (name n) ∷ []) _ (of_attribute way.axis (plain (name n)) (filter.name n) (of_name n))), ap (λ x. x ++ plain (name n) ∷ []) e ∙ simp append_assoc),
  refl,
)
step-sound (attribute_test level way) s stack front ss ok l = tt
step-sound (behind_step level way test cs) (plain opening_bracket) stack front ss ok l =
    (front ++ (ss ++ plain opening_bracket ∷ []), [], (front, ss, ok, l, refl), nothing, sym (append-nil (front ++ (ss ++ plain opening_bracket ∷ []))))
step-sound (behind_step level way test cs) (plain slash) stack front ss ok (ls, ws, t, bs, l, w, it, b, e) =
    (front, ss ++ plain slash ∷ [], ok, (ls, (ws ++ t ∷ bs) ++ plain slash ∷ [], l, way-next ws bs t (plain slash) way test cs child w it b to_children, ap (λ x. x ++ plain slash ∷ []) e ∙ simp append_assoc), refl)
step-sound (behind_step level way test cs) (plain double_slash) stack front ss ok (ls, ws, t, bs, l, w, it, b, e) =
    (front, ss ++ plain double_slash ∷ [], ok, (ls, (ws ++ t ∷ bs) ++ plain double_slash ∷ [], l, way-next ws bs t (plain double_slash) way test cs filter.descendant w it b to_descendants, ap (λ x. x ++ plain double_slash ∷ []) e ∙ simp append_assoc), refl)
step-sound (behind_step level way test cs) s stack front ss ok (ls, ws, t, bs, l, w, it, b, e) =
    behind-sound s level (found (path_to way test cs)) stack front ls (ws ++ t ∷ bs) ss ok l (of_path (ws ++ t ∷ bs) (path_to way test cs) (step-operand ws bs t way test cs w it b)) e
step-sound (behind_operand level o) s stack front ss ok (ls, os, l, is, e) = behind-sound s level o stack front ls os ss ok l is e
step-sound (behind_condition level c) s stack front ss ok (bs, us, base, is, e) =
    subst (λ (x : List Symbol). ResultOk (close level c s stack) (front ++ (x ++ s ∷ []))) (sym e) (close-sound s level c stack front bs us ok base is)

-- ---- the end

operand-whole : (level : Level) (o : Operand) (ls os ss : List Symbol) → LevelOk ls level → IsOperand os o → ss ≡ ls ++ os → IsCondition ss (whole level (compared level.left o))
operand-whole level o ls os ss ok is e =
    cast-condition ss (ok.bs ++ (ok.ls ++ os)) (whole level (compared level.left o)) (e ∙ ap (λ x. x ++ os) ok.is ∙ append_assoc ok.bs ok.ls os)
    (whole-is ok.bs (ok.ls ++ os) level (compared level.left o) ok.base (ok.left.fits os o is))

abbrev pub EndOk : Option Condition → List Symbol → Type 0
EndOk None ts = Unit {0}
EndOk (Some c) ts = IsCondition ts c

abbrev pub PathOk : Option Path → List Symbol → Type 0
PathOk None ts = Unit {0}
PathOk (Some p) ts = IsPath ts p

pub end-sound : (st : State) (ss : List Symbol) → StateOk st ss → EndOk (part_read st) ss
end-sound (behind_step level way test cs) ss (ls, ws, t, bs, l, w, it, b, e) =
    operand-whole level (found (path_to way test cs)) ls (ws ++ t ∷ bs) ss l (of_path (ws ++ t ∷ bs) (path_to way test cs) (step-operand ws bs t way test cs w it b)) e
end-sound (behind_operand level o) ss (ls, os, l, is, e) = operand-whole level o ls os ss l is e
end-sound (behind_condition level c) ss (bs, us, base, is, e) = cast-condition ss (bs ++ us) (whole level c) e (whole-is bs us level c base is)
end-sound st ss ok = tt

-- ---- some sentence goes on

star-operand : IsOperand (plain star ∷ []) (found (path false (filter.step child filter.element any no_more arrived)))
star-operand = of_path (plain star ∷ []) _ (from_element (plain star ∷ []) _ (star-step child))

star-condition : IsCondition (plain star ∷ []) (filter.alone (found (path false (filter.step child filter.element any no_more arrived))))
star-condition = conjunct _ _ (simple _ _ (operand _ _ star-operand))

record Completed (ts : List Symbol) : Type 0 where
  rest : List Symbol
  condition : Condition
  is : IsCondition (ts ++ rest) condition

operand-completes : (level : Level) (o : Operand) (ls os ss rest : List Symbol) → LevelOk ls level → IsOperand os o → ss ++ rest ≡ ls ++ os → Completed ss
operand-completes level o ls os ss rest ok is e = record { rest = rest; condition = whole level (compared level.left o); is = operand-whole level o ls os (ss ++ rest) ok is e }

state-completes : (st : State) (ss : List Symbol) → StateOk st ss → Completed ss
state-completes (start level) ss ok = operand-completes level _ ss (plain star ∷ []) ss (plain star ∷ []) ok star-operand refl
state-completes (not_opening level) ss (bs, base, e) =
    let us : List Symbol = plain opening_parenthesis ∷ plain star ∷ plain closing_parenthesis ∷ [] in
    let c : Condition = filter.alone (found (path false (filter.step child filter.element any no_more arrived))) in
    record {
      rest = us;
      condition = whole level (not_so c);
      is = cast-condition (ss ++ us) (bs ++ not_function ∷ us) (whole level (not_so c)) (ap (λ x. x ++ us) e ∙ append_assoc bs (not_function ∷ []) us)
          (whole-is bs (not_function ∷ us) level (not_so c) base (negated (plain star ∷ []) c star-condition));
    }
state-completes (function_opening level) ss (ls, l, e) =
    let us : List Symbol = plain opening_parenthesis ∷ plain closing_parenthesis ∷ [] in
    operand-completes level local_name ls (local_name_function ∷ us) ss us l of_function (ap (λ x. x ++ us) e ∙ append_assoc ls (local_name_function ∷ []) us)
state-completes (function_closing level) ss (ls, l, e) =
    let us : List Symbol = plain closing_parenthesis ∷ [] in
    operand-completes level local_name ls (local_name_function ∷ plain opening_parenthesis ∷ us) ss us l of_function (ap (λ x. x ++ us) e ∙ append_assoc ls (local_name_function ∷ plain opening_parenthesis ∷ []) us)
state-completes (step level way) ss (ls, ws, l, w, e) =
    operand-completes level _ ls (ws ++ plain star ∷ []) ss (plain star ∷ []) l (of_path _ _ (w (plain star ∷ []) _ (star-step way.axis))) (ap (λ x. x ++ plain star ∷ []) e ∙ append_assoc ls ws (plain star ∷ []))
state-completes (attribute_test level way) ss (ls, ws, l, w, e) =
    operand-completes level _ ls (ws ++ plain at_sign ∷ plain star ∷ []) ss (plain star ∷ []) l (of_path _ _ (w (plain at_sign ∷ plain star ∷ []) _ (of_attribute way.axis (plain star) any of_any)))
    (ap (λ x. x ++ plain star ∷ []) e ∙ simp append_assoc)
state-completes (behind_step level way test cs) ss (ls, ws, t, bs, l, w, it, b, e) =
    operand-completes level _ ls (ws ++ t ∷ bs) ss [] l (of_path (ws ++ t ∷ bs) (path_to way test cs) (step-operand ws bs t way test cs w it b)) (append-nil ss ∙ e)
state-completes (behind_operand level o) ss (ls, os, l, is, e) = operand-completes level o ls os ss [] l is (append-nil ss ∙ e)
state-completes (behind_condition level c) ss (bs, us, base, is, e) =
    record { rest = []; condition = whole level c; is = cast-condition (ss ++ []) (bs ++ us) (whole level c) (append-nil ss ∙ e) (whole-is bs us level c base is) }

stack-completes : (stack : List Opening) (front us : List Symbol) (c : Condition) → StackOk stack front → IsCondition us c → Completed (front ++ us)
stack-completes [] front us c e is = record { rest = []; condition = c; is = cast-condition ((front ++ us) ++ []) us c (append-nil (front ++ us) ∙ ap (λ x. x ++ us) e) is }
stack-completes (machine.bracket level way test cs ∷ stack) front us c (outer, ss, st, (ls, ws, t, bs, lv, w, it, b, e), f) is =
    let X : List Symbol = plain opening_bracket ∷ us ++ plain closing_bracket ∷ [] in
    let part = operand-whole level (found (path_to way test (joined cs (more c no_more)))) ls (ws ++ t ∷ (bs ++ X)) (ls ++ (ws ++ t ∷ (bs ++ X))) lv
    (of_path (ws ++ t ∷ (bs ++ X)) _ (step-operand ws (bs ++ X) t way test (joined cs (more c no_more)) w it (bracketed-more bs us cs c b is))) refl in
    let r = stack-completes stack outer (ls ++ (ws ++ t ∷ (bs ++ X))) _ st part in
    let same : (front ++ us) ++ (plain closing_bracket ∷ r.rest) ≡ (outer ++ (ls ++ (ws ++ t ∷ (bs ++ X)))) ++ r.rest =
    ap (λ x. (x ++ us) ++ (plain closing_bracket ∷ r.rest)) (f ∙ ap (λ x. outer ++ (x ++ plain opening_bracket ∷ [])) e) ∙ simp append_assoc in
    record { rest = plain closing_bracket ∷ r.rest; condition = r.condition; is = cast-condition _ _ r.condition same r.is }
stack-completes (parenthesis level turned ∷ stack) front us c (outer, bs, st, base, f) is =
    let X : List Symbol = opened turned ++ (us ++ plain closing_parenthesis ∷ []) in
    let part = whole-is bs X level (machine.negated_or_not turned c) base (parenthesis-is turned us c is) in
    let r = stack-completes stack outer (bs ++ X) _ st part in
    let same : (front ++ us) ++ (plain closing_parenthesis ∷ r.rest) ≡ (outer ++ (bs ++ X)) ++ r.rest = ap (λ x. (x ++ us) ++ (plain closing_parenthesis ∷ r.rest)) f ∙ simp append_assoc in
    record { rest = plain closing_parenthesis ∷ r.rest; condition = r.condition; is = cast-condition _ _ r.condition same r.is }

pub completes : (m : Machine) (ts : List Symbol) → MachineOk m ts → GoesOn ts
completes m ts (front, ss, st, ok, e) =
    let inner = state-completes m.state ss ok in
    let r = stack-completes m.stack front (ss ++ inner.rest) inner.condition st inner.is in
    let same : ts ++ (inner.rest ++ r.rest) ≡ (front ++ (ss ++ inner.rest)) ++ r.rest = ap (λ x. x ++ (inner.rest ++ r.rest)) e ∙ simp append_assoc in
    (inner.rest ++ r.rest, (r.condition, cast-condition _ _ r.condition same r.is))

-- ---- a path alone

path-cond : (b : Bool) (p : Path) (ts : List Symbol) → (b ≡ true → IsPath ts p) → PathOk (cond b (Some p) None) ts
path-cond true p ts f = f refl
path-cond false p ts f = tt

no-path-cond : (b : Bool) (ts : List Symbol) → PathOk (cond b None None) ts
no-path-cond true ts = tt
no-path-cond false ts = tt

none-of : {A : Type 0} (o : Option A) → is_none o ≡ true → o ≡ None
none-of None e = refl
none-of (Some x) e = cc

empty-level : (ts : List Symbol) (level : Level) → LevelOk ts level → is_empty level ≡ true → ts ≡ []
empty-level ts level ok e =
    let t = both-true (is_none level.ors && is_none level.ands) (is_none level.left) e in
    let u = both-true (is_none level.ors) (is_none level.ands) t.0 in
    ok.is ∙ ap (λ x. x ++ ok.ls) (ok.base.is ∙ ap (λ x. x ++ ok.base.ns) (ok.base.ors.empty (none-of level.ors u.0)) ∙ ok.base.ands.empty (none-of level.ands u.1)) ∙ ok.left.empty (none-of level.left t.1)

cast-path : (ts us : List Symbol) (p : Path) → ts ≡ us → IsPath us p → IsPath ts p
cast-path ts us p e is = subst (λ (x : List Symbol). IsPath x p) (sym e) is

the-path : (ts : List Symbol) (p : Path) → IsOperand ts (found p) → IsPath ts p
the-path ts p (of_path us q is) = is

pub path-sound : (st : State) (ss : List Symbol) → StateOk st ss → PathOk (path_read st) ss
path-sound (behind_step level way test cs) ss (ls, ws, t, bs, l, w, it, b, e) =
    path-cond (is_empty level) (path_to way test cs) ss (λ n. cast-path ss (ws ++ t ∷ bs) _ (e ∙ ap (λ x. x ++ (ws ++ t ∷ bs)) (empty-level ls level l n)) (step-operand ws bs t way test cs w it b))
path-sound (behind_operand level (found p)) ss (ls, os, l, is, e) =
    path-cond (is_empty level) p ss (λ n. cast-path ss os p (e ∙ ap (λ x. x ++ os) (empty-level ls level l n)) (the-path os p is))
path-sound (behind_operand level o) ss (ls, os, l, is, e) = no-path-cond (is_empty level) ss
path-sound st ss ok = tt

pub beginning-ok : MachineOk machine.beginning []
beginning-ok = ([], [], refl, nothing, refl)
