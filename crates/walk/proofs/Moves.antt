-- Each way through a turn, on plain values: what the code's calls found is what the definition says. Assumes nothing.
use Prim.Native.Nat.{ℕ, ◌-◌, ◌<◌}
use mathlib.Core.Path.{◌≡◌, refl, ◌∙◌, ap, sym, subst}
use mathlib.Core.Logic.{◌≢◌}
use mathlib.Core.List.{List, [], ◌∷◌, ◌++◌}
use native.Mathlib.Omega.{arith}
use lib.ListN.{get_or}
use borrow.Author.Tests.{eq-eqb, ne_eqb}
use Rattle.feature.specs.declared.bond_kind.BondKind.{BondKind}
use Rattle.feature.proofs.Cases.{impossible}
use Rattle.join_pool.specs.declared.Pool.{Pool}
use Rattle.std.specs.Prelude.{None, Option, Some}
use Rattle.join_pool.specs.Pairs.{hit_of}
use Rattle.writer.specs.declared.Writer.{Writer}
use Rattle.writer.specs.Line.{Event, Join, Pop}
use Rattle.writer.specs.Steps.{LineGrows}
use Rattle.writer.specs.Tables.{Spoken, say_t, say_all, far}
use Rattle.walk_entry.specs.Graph.{bond_in}
use Rattle.walk.specs.declared.walker.Walker.{Walker}
use Rattle.join_pool.specs.Apart.{Call, called, answer_apart, call_of}
use Rattle.walk_entry.specs.declared.WalkError.{WalkError}
use Rattle.walk_entry.specs.declared.WalkError.TheVariants.{RingNumbers}
use Rattle.walk.specs.Walk.{Walk, walk, Turn, quiet, refused_as, pool_put, root_passed, current_at, back_at, at_end, ring_said, pops_of, pops_then, left_in, numbered_of, ring_turn}
use Rattle.walk.specs.Steps.{Did, TurnOnward, TurnGrows}

-- ---- how far
pub onward_as : {z y r : Walker} → r ≡ y → TurnOnward z y → TurnOnward z r
onward_as {z} {y} {r} e h = subst (λ (x : Walker). TurnOnward z x) (sym e) h

pub onward_refused : (z : Walker) (why : WalkError) → TurnOnward z (refused_as z why)
onward_refused z why = record { next = omega arith; pend = omega arith; count = omega arith }

pub onward_same : (z : Walker) → TurnOnward z z
onward_same z = record { next = omega arith; pend = omega arith; count = omega arith }

pub onward_passed : (z : Walker) → TurnOnward z (root_passed z)
onward_passed z = record { next = omega arith; pend = omega arith; count = omega arith }

pub onward_met : (z : Walker) (a : ℕ) → TurnOnward z (current_at z a)
onward_met z a = record { next = omega arith; pend = omega arith; count = omega arith }

met_passed : (z : Walker) (a : ℕ) → TurnOnward z (current_at (root_passed z) a)
met_passed z a = record { next = omega arith; pend = omega arith; count = omega arith }

pub onward_root : {z y r : Walker} (a : ℕ) → y ≡ root_passed z → r ≡ current_at y a → TurnOnward z r
onward_root {z} {y} {r} a e f = onward_as (f ∙ ap (λ (x : Walker). current_at x a) e) (met_passed z a)

pub passed_count : (z y : Walker) → y ≡ root_passed z → z.count < far → y.count < far
passed_count z y e h = subst (λ (x : Walker). x.count < far) (sym e) h

pub onward_ringed : (z : Walker) (p : Pool) → TurnOnward z (ring_said z p)
onward_ringed z p = record { next = omega arith; pend = omega arith; count = omega arith }

onward_end : (z : Walker) → TurnOnward z (at_end z)
onward_end z = record { next = omega arith; pend = omega arith; count = omega arith }

onward_back : (z : Walker) (a : ℕ) → TurnOnward z (back_at z a)
onward_back z a = record { next = omega arith; pend = omega arith; count = omega arith }

pub grows_quiet : {y z : Walker} (line : Writer) → TurnOnward y z → TurnGrows y z line line
grows_quiet line o = record { onward = o; pieces = omega arith; len = omega arith }

pub grows_one : {y z : Walker} {line said : Writer} → TurnOnward y z → LineGrows line said → TurnGrows y z line said
grows_one o a = record { onward = o; pieces = omega (arith, a.pieces); len = omega (arith, a.len) }

pub grows_two : {y z : Walker} {line popped said : Writer} → TurnOnward y z → LineGrows line popped → LineGrows popped said → TurnGrows y z line said
grows_two o a b =
    record { onward = o; pieces = omega (arith, a.pieces, b.pieces); len = omega (arith, a.len, b.len) }

-- ---- what is said
pub say_append : (s : Spoken) (xs ys : List Event) → say_all s (xs ++ ys) ≡ say_all (say_all s xs) ys
unfolding say_all
say_append s [] ys = refl
say_append s (x ∷ xs) ys = say_append (say_t s x) xs ys

pub pops_none : (s : Spoken) (n : ℕ) → n ≡ 0 → s ≡ say_all s (pops_of n)
unfolding pops_of say_all
pops_none s n e = simp (eq-eqb n 0 e)

pub pops_some : (s x : Spoken) (n : ℕ) → n ≢ 0 → x ≡ say_t s (Pop n) → x ≡ say_all s (pops_of n)
unfolding pops_of say_all
pops_some s x n d e = e ∙ simp (ne_eqb n 0 d)

pub say_one : (s x : Spoken) (e : Event) → x ≡ say_t s e → x ≡ say_all s (e ∷ [])
unfolding say_all
say_one s x e h = h

pub say_none : (s : Spoken) → s ≡ say_all s []
unfolding say_all
say_none s = refl

pub say_then : (s x y : Spoken) (n : ℕ) (e : Event) → x ≡ say_all s (pops_of n) → y ≡ say_t x e → y ≡ say_all s (pops_then n e)
say_then s x y n e f g =
    say_one x y e g ∙ ap (λ (q : Spoken). say_all q (e ∷ [])) f ∙ sym (say_append s (pops_of n) (e ∷ []))

pub did_as : {x y : Turn} {w : Walk} {s n : Spoken} → x ≡ y → Did y w s n → Did x w s n
did_as {x} {y} {w} {s} {n} e h = subst (λ (t : Turn). Did t w s n) (sym e) h

pub did_quiet : (w v : Walk) (s : Spoken) → v ≡ w → Did (quiet w) v s s
did_quiet w v s e = record { after = e; said = say_none s }

-- ---- an atom left
pub left_end : (bonds first back : List ℕ) (z r : Walker) (a b : ℕ) → b ≡ get_or back a 0 → b ≡ 0 → r ≡ at_end z → (r ≡ left_in bonds first back z a) × TurnOnward z r
unfolding left_in
left_end bonds first back z r a b e d h =
    (h ∙ simp (eq-eqb _ _ (sym e ∙ d)), onward_as h (onward_end z))

pub left_back : (bonds first back : List ℕ) (z r : Walker) (a b t : ℕ) → b ≡ get_or back a 0 → b ≢ 0 → t ≡ (bond_in bonds first a (b - 1)).to → r ≡ back_at z t → (r ≡ left_in bonds first back z a) × TurnOnward z r
unfolding left_in
left_back bonds first back z r a b t e d f h =
    (h ∙ ap (back_at z) f ∙ ap (λ (x : ℕ). back_at z (bond_in bonds first a (x - 1)).to) e ∙ simp (ne_eqb _ _ (λ (q : get_or back a 0 ≡ 0). d (e ∙ q))), onward_as h (onward_back z _))

-- ---- a bond to an atom met before
module _ (p q : Pool) (n : Option ℕ) (pairs' : List ℕ) where
  -- what the pool's call answers and leaves, told from what it answers in its place
  none_given : (x : Option (Pool × ℕ)) (l : List ℕ) → called q n pairs' ≡ answer_apart p x l → n ≡ None → (x ≡ None) × (l ≡ pairs') × (q ≡ p)
  unfolding answer_apart
  none_given (Some (r, m)) l h e = absurd (let y : Some m ≡ None = sym (ap (λ (c : Call). c.number) h) ∙ e in impossible cc)
  none_given None l h e = (refl, sym (ap (λ (c : Call). c.left) h), ap (λ (c : Call). c.pool) h)

  number_given : (m : ℕ) (x : Option (Pool × ℕ)) (l : List ℕ) → called q n pairs' ≡ answer_apart p x l → n ≡ Some m → (x ≡ Some (q, m)) × (l ≡ pairs')
  unfolding answer_apart
  number_given m (Some (r, i)) l h e =
      let y : Some i ≡ Some m = sym (ap (λ (c : Call). c.number) h) ∙ e in
      let z : i ≡ m = cc in
      (ap (λ (k : ℕ). Some (r, k)) z ∙ ap (λ (k : Pool). Some (k, m)) (sym (ap (λ (c : Call). c.pool) h)), sym (ap (λ (c : Call). c.left) h))
  number_given m None l h e = absurd (let y : None ≡ Some m = sym (ap (λ (c : Call). c.number) h) ∙ e in impossible cc)

module _ (z r : Walker) (met walked back taken pairs pairs' : List ℕ) (k : BondKind) (s t : ℕ) (q : Pool) (n : Option ℕ) (call : called q n pairs' ≡ call_of z.pool (hit_of z.pool pairs s t)) where
  ring_as : (x : Option (Pool × ℕ)) → (hit_of z.pool pairs s t).answer ≡ x → (hit_of z.pool pairs s t).left ≡ pairs' → ring_turn (walk z met walked back taken pairs) k s t ≡ numbered_of (walk z met walked back taken pairs) k s t x pairs'
  unfolding ring_turn
  ring_as x e f =
      ap (λ (y : Option (Pool × ℕ)). numbered_of (walk z met walked back taken pairs) k s t y (hit_of z.pool pairs s t).left) e
      ∙ ap (numbered_of (walk z met walked back taken pairs) k s t x) f

  pub ring_full : (line : Spoken) → n ≡ None → r ≡ refused_as (pool_put z z.pend q) (RingNumbers s t) → Did (ring_turn (walk z met walked back taken pairs) k s t) (walk r met walked back taken pairs') line line
  unfolding numbered_of
  ring_full line e f =
      let g = none_given z.pool q n pairs' (hit_of z.pool pairs s t).answer (hit_of z.pool pairs s t).left call e in
      did_as (ring_as None g.0 g.1)
      (did_quiet (walk (refused_as z (RingNumbers s t)) met walked back taken pairs') _ line
      (ap (λ (x : Walker). walk x met walked back taken pairs') (f ∙ ap (λ (x : Pool). refused_as (pool_put z z.pend x) (RingNumbers s t)) g.2)))

  pub ring_number : (line popped said : Spoken) (m : ℕ) → n ≡ Some m → r ≡ ring_said z q → popped ≡ say_all line (pops_of z.pend) → said ≡ say_t popped (Join k m) → Did (ring_turn (walk z met walked back taken pairs) k s t) (walk r met walked back taken pairs') line said
  unfolding numbered_of
  ring_number line popped said m e f d i =
      let g = number_given z.pool q n pairs' m (hit_of z.pool pairs s t).answer (hit_of z.pool pairs s t).left call e in
      did_as (ring_as (Some (q, m)) g.0 g.1)
      (record { after = ap (λ (x : Walker). walk x met walked back taken pairs') f; said = say_then line popped said z.pend (Join k m) d i })
