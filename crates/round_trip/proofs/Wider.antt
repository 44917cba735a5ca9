-- A builder builds the same with more room, but where it refuses an atom or an entry for want of room. Assumes nothing.
use mathlib.Core.Path.{◌≡◌, refl, sym, ap, ◌∙◌, subst}
use mathlib.Core.List.{List, [], ◌∷◌}
use mathlib.Core.Option.{Option, none, some}
use mathlib.Core.Bool.{Bool, true, false}
use Prim.Native.Nat.{ℕ, ◌+◌, ◌≤◌, ◌<◌}
use native.Mathlib.Omega.{arith}
use lib.Dec.{leb, ltb, eqb}
use borrow.Author.Tests.{ne_eqb, leb-true, leb-false, lt-leb, ltb-true, ltb-false, le-ltb}
use Rattle.feature.specs.Pick.{pick}
use Rattle.feature.specs.Kinds.{invert_of}
use Rattle.feature.specs.declared.atom_kind.AtomKind.{AtomKind}
use Rattle.std.specs.Prelude as std
use Rattle.std.specs.Prelude.{Some}
use Rattle.feature.specs.declared.bond_kind.BondKind.{BondKind}
use Rattle.read_token.specs.declared.scanner.Missing.{Missing}
use Rattle.read_token.specs.declared.scanner.Missing.TheVariants.{EndOfLine, Character}
use Rattle.desk_numbers.specs.Numbers.{atom_room, bond_room}
use Rattle.read_line.specs.declared.lead.Lead.{Lead}
use Rattle.read_line.specs.declared.lead.Lead.TheVariants.{Dot, Bond}
use Rattle.read_line.specs.Events.{ReadEvent, Enter, Join, Pop, Miss, Nest}
use Rattle.builder_meaning.specs.Sketch.{Sketch, sketch, Held, Failure, None, Failed, refused, next_number, count_of, root_s, extend_s, bonded_s, opened_s, closed_s, ring_s, join_s, judged_s, enter_s, number_s, missed_s, step_s, run_s, lookup}
use Rattle.trip_graph.proofs.Lists.{by_bool}
use Rattle.trip_graph.proofs.Follows.{run_refused}

-- a builder with room for p0 atoms and l0 entries beside one with room for p and l, which are no fewer
module _ (p0 l0 p l : ℕ) where
  -- the same with room for p atoms and l entries
  abbrev pub wide : Sketch → Sketch
  wide d = sketch p l d.nodes d.path d.opens d.joins d.failure d.unseen d.refusal d.carried

  -- the same, or there was no room for an atom or for an entry, and there is more of it now
  pub data Kept (x y : Sketch) : Type 0 where
    kept : y ≡ wide x → x.places ≡ p0 → x.slots ≡ l0 → Kept x y
    few_places : x.refusal ≡ atom_room → p0 < p → Kept x y
    few_slots : x.refusal ≡ bond_room → l0 < l → Kept x y

  -- a choice between a refusal and what goes on: both refuse, the first alone does, or both go on
  pick_wide : (q r : Bool) (x x' y y' : Sketch) → (q ≡ false → r ≡ false) → Kept x x' → (q ≡ true → r ≡ false → Kept x y') → Kept y y' → Kept (pick q x y) (pick r x' y')
  pick_wide true true x x' y y' t both first k = both
  pick_wide true false x x' y y' t both first k = first refl refl
  pick_wide false r x x' y y' t both first k = rw (t refl) k

  module _ (p≥ : p0 ≤ p) (l≥ : l0 ≤ l) (d : Sketch) (hp : d.places ≡ p0) (hl : d.slots ≡ l0) where
    -- an atom for which there is no room, or what comes of it
    atom_wide : (place : ℕ) (y y' : Sketch) → Kept y y' → Kept (pick (leb d.places (next_number d)) (refused d atom_room place) y) (pick (leb p (next_number d)) (refused (wide d) atom_room place) y')
    atom_wide place y y' =
        pick_wide (leb d.places (next_number d)) (leb p (next_number d)) (refused d atom_room place) (refused (wide d) atom_room place) y y'
        (λ q. lt-leb p (next_number d) (omega (arith, p≥, hp, leb-false d.places (next_number d) q))) (kept refl hp hl)
        (λ q r. few_places refl (omega (arith, hp, leb-true d.places (next_number d) q, leb-false p (next_number d) r)))

    -- n entries for which there is no room, or what comes of them
    slots_wide : (n place : ℕ) (y y' : Sketch) → Kept y y' → Kept (pick (ltb d.slots n) (refused d bond_room place) y) (pick (ltb l n) (refused (wide d) bond_room place) y')
    slots_wide n place y y' =
        pick_wide (ltb d.slots n) (ltb l n) (refused d bond_room place) (refused (wide d) bond_room place) y y'
        (λ q. le-ltb l n (omega (arith, l≥, hl, ltb-false d.slots n q))) (kept refl hp hl)
        (λ q r. few_slots refl (omega (arith, hl, ltb-true d.slots n q, ltb-false l n r)))

    root_wide : (k : AtomKind) (place : ℕ) → Kept (root_s d k place) (root_s (wide d) k place)
    unfolding root_s next_number
    root_wide k place = atom_wide place _ _ (kept refl hp hl)

    bonded_wide : (e : BondKind) (s : ℕ) (x : std.Option AtomKind) → Kept (bonded_s d e s x) (bonded_s (wide d) e s x)
    unfolding bonded_s next_number
    bonded_wide e s std.None = kept refl hp hl
    bonded_wide e s (Some k) = kept refl hp hl

    extend_wide : (e : BondKind) (k : AtomKind) (place : ℕ) (path : List ℕ) → Kept (extend_s d e k place path) (extend_s (wide d) e k place path)
    unfolding extend_s next_number
    extend_wide e k place [] = kept refl hp hl
    extend_wide e k place (s ∷ rest) =
        atom_wide place (pick (ltb d.slots (count_of d.nodes + 2)) (refused d bond_room place) (bonded_s d e s (invert_of k)))
        (pick (ltb l (count_of d.nodes + 2)) (refused (wide d) bond_room place) (bonded_s (wide d) e s (invert_of k)))
        (slots_wide (count_of d.nodes + 2) place (bonded_s d e s (invert_of k)) (bonded_s (wide d) e s (invert_of k)) (bonded_wide e s (invert_of k)))

    close_wide : (n place s : ℕ) (h : Held) (r : std.Option (BondKind × BondKind)) → Kept (closed_s d n place s h r) (closed_s (wide d) n place s h r)
    unfolding closed_s
    close_wide n place s h std.None = kept refl hp hl
    close_wide n place s h (Some (a, b)) = slots_wide (count_of d.nodes + 1) place _ _ (kept refl hp hl)

    opened_wide : (e : BondKind) (n s : ℕ) → Kept (opened_s d e n s) (opened_s (wide d) e n s)
    unfolding opened_s
    opened_wide e n s = kept refl hp hl

    ring_wide : (e : BondKind) (n place s : ℕ) (h : Option Held) → Kept (ring_s d e n place s h) (ring_s (wide d) e n place s h)
    unfolding ring_s
    ring_wide e n place s none = slots_wide (count_of d.nodes + 1) place (opened_s d e n s) (opened_s (wide d) e n s) (opened_wide e n s)
    ring_wide e n place s (some h) = close_wide n place s h _

    join_wide : (e : BondKind) (n place : ℕ) (path : List ℕ) → Kept (join_s d e n place path) (join_s (wide d) e n place path)
    unfolding join_s
    join_wide e n place [] = kept refl hp hl
    join_wide e n place (s ∷ rest) = ring_wide e n place s (lookup n d.opens)

    judged_wide : (x : std.Option AtomKind) → Kept (judged_s d x) (judged_s (wide d) x)
    unfolding judged_s next_number
    judged_wide std.None = kept refl hp hl
    judged_wide (Some k) = kept refl hp hl

    enter_wide : (a : Lead) (k : AtomKind) (place : ℕ) (f : Failure) → Kept (enter_s d a k place f) (enter_s (wide d) a k place f)
    unfolding enter_s
    enter_wide Dot k place None = root_wide k place
    enter_wide (Bond e) k place None = extend_wide e k place d.path
    enter_wide Dot k place (Failed x y) = kept refl hp hl
    enter_wide (Bond e) k place (Failed x y) = judged_wide (invert_of k)

    number_wide : (e : BondKind) (n place : ℕ) (f : Failure) → Kept (number_s d e n place f) (number_s (wide d) e n place f)
    unfolding number_s
    number_wide e n place None = join_wide e n place d.path
    number_wide e n place (Failed x y) = kept refl hp hl

    missed_wide : (m : Missing) → Kept (missed_s d m) (missed_s (wide d) m)
    unfolding missed_s
    missed_wide EndOfLine = kept refl hp hl
    missed_wide (Character place) = kept refl hp hl

    step_wide : (e : ReadEvent) → Kept (step_s d e) (step_s (wide d) e)
    unfolding step_s
    step_wide (Enter a k place) = enter_wide a k place d.failure
    step_wide (Join e n place) = number_wide e n place d.failure
    step_wide (Pop n) = kept refl hp hl
    step_wide (Miss m) = missed_wide m
    step_wide (Nest place) = kept refl hp hl

  -- events in a row
  then_wide : (es : List ReadEvent) (x y : Sketch) → ((d : Sketch) → d.places ≡ p0 → d.slots ≡ l0 → Kept (run_s d es) (run_s (wide d) es)) → Kept x y → Kept (run_s x es) (run_s y es)
  then_wide es x y f (kept i hp hl) = subst (λ (c : Sketch). Kept (run_s x es) (run_s c es)) (sym i) (f x hp hl)
  then_wide es x y f (few_places e h) =
      few_places (ap (λ (c : Sketch). c.refusal) (run_refused x es (ne_eqb x.refusal 0 (λ z. let w : atom_room ≡ 0 = sym e ∙ z in omega arith))) ∙ e) h
  then_wide es x y f (few_slots e h) =
      few_slots (ap (λ (c : Sketch). c.refusal) (run_refused x es (ne_eqb x.refusal 0 (λ z. let w : bond_room ≡ 0 = sym e ∙ z in omega arith))) ∙ e) h

  pub run_wide : p0 ≤ p → l0 ≤ l → (es : List ReadEvent) (d : Sketch) → d.places ≡ p0 → d.slots ≡ l0 → Kept (run_s d es) (run_s (wide d) es)
  unfolding run_s
  run_wide p≥ l≥ [] d hp hl = kept refl hp hl
  run_wide p≥ l≥ (e ∷ es) d hp hl =
      by_bool (eqb d.refusal 0)
      (λ q. rw q (then_wide es (step_s d e) (step_s (wide d) e) (run_wide p≥ l≥ es) (step_wide p≥ l≥ d hp hl e)))
      (λ q. rw q (kept refl hp hl))
