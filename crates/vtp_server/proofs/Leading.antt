-- Turns that lead from one seat to another, by what each of them does.
use Rattle.std.proofs.Common.{◌≡◌, ℕ, List, [], ◌∷◌, sym, subst}
use Rattle.vtp_server.specs.Moves.{Move, Read, Turn, Write, Tell}
use Rattle.vtp_server.specs.Talk.{Leads}

-- what holds of each seat holds of the last, and each turn does what it does from such a seat
pub leads_with : {A R T : Type 0} (acts does : T → A → R → ℕ → ℕ → T → Type 0) (Holds : T → Type 0) → ((x y : T) (asked : A) (reply : R) (place front : ℕ) → Holds x → acts x asked reply place front y → does x asked reply place front y × Holds y)
    → (x y : T) (ms : List (Move A R)) → Holds x → Leads acts x ms y → Leads does x ms y × Holds y
leads_with acts does Holds step x y [] h led = (led, subst Holds (sym led) h)
leads_with acts does Holds step x y (Read found t ∷ ms) h led = leads_with acts does Holds step x y ms h led
leads_with acts does Holds step x y (Write payload ∷ ms) h led = leads_with acts does Holds step x y ms h led
leads_with acts does Holds step x y (Tell line ∷ ms) h led = leads_with acts does Holds step x y ms h led
leads_with acts does Holds step x y (Turn asked reply place front ∷ ms) h led =
    let one = step x led.0 asked reply place front h led.1 in
    let rest = leads_with acts does Holds step led.0 y ms one.1 led.2 in
    ((led.0, one.0, rest.0), rest.1)
