-- What the events of a turn make of the pieces held: how many there are then, and how long their line can be. Assumes nothing.
use Prim.Native.Nat.{ℕ, ◌+◌, ◌-◌, ◌*◌, ◌≤◌, ◌<◌}
use mathlib.Core.Path.{◌≡◌, refl, ap, ◌∙◌}
use mathlib.Core.List.{List, [], ◌∷◌, ◌++◌}
use native.Mathlib.Omega.{arith}
use lib.ListN.{length, take, drop, length-append, length-drop}
use lib.Dec.{eqb}
use borrow.Author.Tests.{lt-leb, eqb-true, eqb-false}
use Rattle.feature.specs.declared.atom_kind.AtomKind.{AtomKind}
use Rattle.feature.specs.declared.bond_kind.BondKind.{BondKind}
use Rattle.spell.specs.Spell.{atom_text, bond_text, rnum_text}
use Rattle.writer.specs.Line.{Event, Root, Extend, Join, Pop, line_of, dot_text, on_last, wrapped, pop_pieces, write_event, write_events}
use Rattle.writer.proofs.Pieces.{length_on_last, line_on_last, line_split, long_wrapped, piece_added}
use Rattle.spell.proofs.Lengths.{atom_short, bond_short, rnum_short}
use Rattle.writer.proofs.Lengths.{dot_short}
use Rattle.walk.specs.Walk.{pops_of, pops_then}
use Rattle.walk_laws.specs.Trek.{AllAccepted}
use Rattle.feature.proofs.Cases.{by_test}

-- events are taken, and leave n pieces with a line of at most m bytes
pub record Leaves (most : ℕ) (es : List Event) (ps : List (List ℕ)) (n m : ℕ) : Type 0 where
  pub accepted : AllAccepted most es ps
  pub pieces : length (write_events most es ps) ≡ n
  pub line : length (line_of (write_events most es ps)) ≤ m

-- ---- events one after the other
pub write_append : (most : ℕ) (xs ys : List Event) (ps : List (List ℕ)) → write_events most (xs ++ ys) ps ≡ write_events most ys (write_events most xs ps)
unfolding write_events
write_append most [] ys ps = refl
write_append most (x ∷ xs) ys ps = write_append most xs ys (write_event most x ps)

pub accept_append : (most : ℕ) (xs ys : List Event) (ps : List (List ℕ)) → AllAccepted most xs ps → AllAccepted most ys (write_events most xs ps) → AllAccepted most (xs ++ ys) ps
unfolding write_events
accept_append most [] ys ps h k = k
accept_append most (x ∷ xs) ys ps h k = (h.0, accept_append most xs ys (write_event most x ps) h.1 k)

leaves_then : {most : ℕ} {xs ys : List Event} {ps : List (List ℕ)} {a b n m : ℕ} → Leaves most xs ps a b → Leaves most ys (write_events most xs ps) n m → Leaves most (xs ++ ys) ps n m
leaves_then {most} {xs} {ys} {ps} h k =
    record {
      accepted = accept_append most xs ys ps h.accepted k.accepted;
      pieces = rw (write_append most xs ys ps) k.pieces;
      line = rw (write_append most xs ys ps) k.line;
    }

-- ---- one event
module _ (most : ℕ) (ps : List (List ℕ)) where
  line_more : (text : List ℕ) → length (line_of (text ∷ ps)) ≡ length (line_of ps) + length text
  unfolding line_of
  line_more text = length-append (line_of ps) text

  pub leaves_root : (k : AtomKind) → length ps < most → Leaves most (Root k ∷ []) ps (length ps + 1) (length (line_of ps) + 22)
  unfolding write_events write_event
  leaves_root k h =
      let text : List ℕ = dot_text (length ps) ++ atom_text k in
      record {
        accepted = (h, tt);
        pieces = rw (piece_added most text ps h) (omega arith);
        line = rw (piece_added most text ps h) (omega (arith, line_more text, length-append (dot_text (length ps)) (atom_text k), dot_short (length ps), atom_short k));
      }

  leaves_extend : (b : BondKind) (k : AtomKind) → length ps < most → Leaves most (Extend b k ∷ []) ps (length ps + 1) (length (line_of ps) + 22)
  unfolding write_events write_event
  leaves_extend b k h =
      let text : List ℕ = bond_text b ++ atom_text k in
      record {
        accepted = (h, tt);
        pieces = rw (piece_added most text ps h) (omega arith);
        line = rw (piece_added most text ps h) (omega (arith, line_more text, length-append (bond_text b) (atom_text k), bond_short b, atom_short k));
      }

  leaves_join : (b : BondKind) (n : ℕ) → 0 < length ps → Leaves most (Join b n ∷ []) ps (length ps) (length (line_of ps) + 4)
  unfolding write_events write_event
  leaves_join b n h =
      let text : List ℕ = bond_text b ++ rnum_text n in
      record {
        accepted = (h, tt);
        pieces = length_on_last text ps;
        line = rw (line_on_last text ps h) (omega (arith, length-append (line_of ps) text, length-append (bond_text b) (rnum_text n), bond_short b, rnum_short n));
      }

  pop_less : (d : ℕ) → d < length ps → pop_pieces d ps ≡ on_last (wrapped (line_of (take d ps))) (drop d ps)
  unfolding pop_pieces
  pop_less d h = simp (lt-leb (length ps) d h)

  leaves_pop : (d : ℕ) → d < length ps → Leaves most (Pop d ∷ []) ps (length ps - d) (length (line_of ps) + 2)
  unfolding write_events write_event
  leaves_pop d h =
      let text : List ℕ = wrapped (line_of (take d ps)) in
      let some : 0 < length (drop d ps) = rw length-drop (omega arith) in
      record {
        accepted = (h, tt);
        pieces = rw (pop_less d h) (length_on_last text (drop d ps) ∙ length-drop d ps);
        line =
            rw (pop_less d h, line_on_last text (drop d ps) some)
            (omega (arith, length-append (line_of (drop d ps)) text, long_wrapped (line_of (take d ps)), ap length (line_split d ps), length-append (line_of (drop d ps)) (line_of (take d ps))));
      }

  -- the atoms left since the last event popped: two bytes, and a piece less for at least one
  leaves_pops : (d : ℕ) → d < length ps → Leaves most (pops_of d) ps (length ps - d) (length (line_of ps) + 2 * d)
  unfolding pops_of write_events
  leaves_pops d h =
      by_test (λ (es : List Event). Leaves most es ps (length ps - d) (length (line_of ps) + 2 * d)) (eqb d 0)
      (λ q. record { accepted = tt; pieces = omega (arith, eqb-true d 0 q); line = omega arith })
      (λ q. let p = leaves_pop d h in
      record { accepted = p.accepted; pieces = p.pieces; line = omega (arith, p.line, eqb-false d 0 q) })

-- ---- the atoms left popped, then an event
module _ (most : ℕ) (ps : List (List ℕ)) (d : ℕ) (h : d < length ps) where
  pub pops_join : (b : BondKind) (n : ℕ) → Leaves most (pops_then d (Join b n)) ps (length ps - d) (length (line_of ps) + 2 * d + 4)
  pops_join b n =
      let p = leaves_pops most ps d h in
      let q = leaves_join most (write_events most (pops_of d) ps) b n (omega (arith, p.pieces)) in
      let r = leaves_then p q in
      record { accepted = r.accepted; pieces = omega (arith, r.pieces, p.pieces); line = omega (arith, r.line, p.line) }

  pub pops_extend : (b : BondKind) (k : AtomKind) → length ps < most → Leaves most (pops_then d (Extend b k)) ps (length ps - d + 1) (length (line_of ps) + 2 * d + 22)
  pops_extend b k room =
      let p = leaves_pops most ps d h in
      let q = leaves_extend most (write_events most (pops_of d) ps) b k (omega (arith, p.pieces)) in
      let r = leaves_then p q in
      record { accepted = r.accepted; pieces = omega (arith, r.pieces, p.pieces); line = omega (arith, r.line, p.line) }
