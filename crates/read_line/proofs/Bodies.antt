-- What a byte begins: told apart by a number, and a choice by it. Assumes nothing.
use Prim.Native.Nat.{ℕ, zero, suc}
use mathlib.Core.Path.{◌≡◌, refl, sym, ap, ◌∙◌}
use mathlib.Core.List.{List}
use Rattle.read_line.specs.declared.lead.Body.{Body}
use Rattle.read_line.specs.declared.lead.Body.TheVariants.{Ends, Branch, Unit}
use Rattle.read_line.specs.Events.{ReadEvent}
use Rattle.read_line.specs.Parse.{by_body}

abbrev pub mark_of : Body → ℕ
mark_of Ends = 0
mark_of Branch = 1
mark_of Unit = 2

abbrev marked : ℕ → Body
marked zero = Ends
marked (suc zero) = Branch
marked (suc (suc n)) = Unit

mark_back : (b : Body) → marked (mark_of b) ≡ b
mark_back Ends = refl
mark_back Branch = refl
mark_back Unit = refl

pub same_body : (a b : Body) → mark_of a ≡ mark_of b → a ≡ b
same_body a b e = sym (mark_back a) ∙ ap marked e ∙ mark_back b

-- what holds of each of three holds of the one that a body picks
pub by_body_lem : (P : List ReadEvent → Type 0) (b : Body) {x y z : List ReadEvent} → P x → P y → P z → P (by_body b x y z)
by_body_lem P Ends f g h = f
by_body_lem P Branch f g h = g
by_body_lem P Unit f g h = h
