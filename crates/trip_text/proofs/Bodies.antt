-- What the reader says where a piece of text is: one body at a time, with whatever follows it. Assumes nothing.
use Prim.Native.Nat.{ℕ, suc, ◌+◌, ◌-◌, ◌≤◌}
use mathlib.Core.Path.{◌≡◌}
use mathlib.Core.List.{List, [], ◌∷◌, ◌++◌}
use mathlib.Core.Bool.{true}
use native.Mathlib.Omega.{arith}
use lib.ListN.{length}
use lib.Dec.{eqb}
use borrow.Author.Tests.{le-ltb}
use Rattle.feature.specs.Pick.{pick}
use Rattle.feature.specs.Text.{byte, bytes}
use Rattle.feature.specs.declared.atom_kind.AtomKind.{AtomKind}
use Rattle.feature.specs.declared.bond_kind.BondKind.{BondKind}
use Rattle.spell.specs.Spell.{atom_text, bond_text, rnum_text}
use Rattle.std.specs.Prelude.{Ok, Some}
use Rattle.read_token.specs.Scan.{peek_at, atom_at}
use Rattle.survive.specs.Survive.{survives, can_follow}
use Rattle.survive.proofs.ReadBack.{read_back_at}
use Rattle.survive.proofs.Shift.{front}
use Rattle.read_line.specs.declared.lead.Lead.TheVariants.{Dot, Bond}
use Rattle.read_line.specs.Events.{ReadEvent, Enter, Join, Pop, Nest}
use Rattle.read_line.specs.Parse.{Rest, body_of, body_at, led_at, found_p, atom_p, ring_p, union_by, union_p, unit_by, unit_p, line_p, close_p, branch_p, bodies, end_p}
use Rattle.trip_text.proofs.Stands.{Stands, after, next, apart, first}
use Rattle.trip_text.proofs.Heads.{atom_plain, rnum_plain}
use Rattle.trip_text.proofs.Marks.{leads, ringed}

-- an atom that survives, where what follows it can't be a second letter
pub atom_read : (k : AtomKind) {s : List ℕ} {at : ℕ} (q : List ℕ) → survives k ≡ true → can_follow q ≡ true → Stands s at (atom_text k ++ q)
    → atom_at s at ≡ Ok (Some (k, at + length (atom_text k)))
atom_read k {s} {at} q ok c h = read_back_at s at q k ok c h.is

module _ (f : ℕ) (s : List ℕ) (room at n : ℕ) (K : Rest) (q : List ℕ) where
  -- an atom with its bond
  pub extend_read : (b : BondKind) (k : AtomKind) → survives k ≡ true → can_follow q ≡ true → Stands s at ((bond_text b ++ atom_text k) ++ q)
      → bodies (suc f) s room at n K ≡ Enter (Bond b) k (at + length (bond_text b)) ∷ bodies f s room (at + length (bond_text b) + length (atom_text k)) (n + 1) K
  unfolding bodies unit_p unit_by union_p union_by
  extend_read b k ok c h =
      let l = leads b (atom_text k) q (atom_plain k ok) h in
      let a = atom_read k q ok c (after (bond_text b) (atom_text k ++ q) (apart (bond_text b) (atom_text k) q h)) in
      simp (l.body, l.lead, l.next, a)

  -- a ring number with its bond
  pub join_read : (b : BondKind) (r : ℕ) → r ≤ 99 → Stands s at ((bond_text b ++ rnum_text r) ++ q)
      → bodies (suc f) s room at n K ≡ Join b r (at + length (bond_text b)) ∷ bodies f s room (at + length (bond_text b) + length (rnum_text r)) n K
  unfolding bodies unit_p unit_by union_p union_by ring_p
  join_read b r small h =
      let l = leads b (rnum_text r) q (rnum_plain r small) h in
      let a = ringed s (at + length (bond_text b)) r q small (after (bond_text b) (rnum_text r ++ q) (apart (bond_text b) (rnum_text r) q h)) in
      simp (l.body, l.lead, l.next, a.none, a.number)

  -- an atom after "."
  pub split_read : (k : AtomKind) → survives k ≡ true → can_follow q ≡ true → Stands s at ((bytes "." ++ atom_text k) ++ q)
      → bodies (suc f) s room at n K ≡ Enter Dot k (at + 1) ∷ bodies f s room (at + 1 + length (atom_text k)) (n + 1) K
  unfolding bodies unit_p unit_by atom_p found_p body_at body_of led_at
  split_read k ok c h =
      let a = atom_read k q ok c (next h) in
      simp (first h, a)

  -- a branch: one too many, or a line that ")" should end
  pub branch_read : Stands s at (byte "(" ∷ q)
      → bodies (suc f) s room at n K
      ≡ pick (eqb room 0) (Nest at ∷ [])
      (line_p (bodies f s (room - 1)) s (led_at s (at + 1)).next (led_at s (at + 1)).value (close_p s (λ at'. bodies f s room at' n K)))
  unfolding bodies branch_p body_at body_of
  branch_read h = simp (first h)

  -- what ends a branch
  pub close_read : (next : ℕ → List ReadEvent) → Stands s at (byte ")" ∷ q) → bodies (suc f) s room at n (close_p s next) ≡ Pop n ∷ next (at + 1)
  unfolding bodies body_at body_of close_p
  close_read next h = simp (first h)

-- the line's first atom
pub start_read : (f : ℕ) (s : List ℕ) (room at : ℕ) (K : Rest) (q : List ℕ) (k : AtomKind) → survives k ≡ true → can_follow q ≡ true → Stands s at (atom_text k ++ q)
    → line_p (bodies f s room) s at Dot K ≡ Enter Dot k at ∷ bodies f s room (at + length (atom_text k)) (0 + 1) K
unfolding line_p atom_p found_p
start_read f s room at K q k ok c h = simp (atom_read k q ok c h)

-- a branch's first atom, with its bond
pub opened_read : (f : ℕ) (s : List ℕ) (room at : ℕ) (K : Rest) (q : List ℕ) (b : BondKind) (k : AtomKind) → survives k ≡ true → can_follow q ≡ true
    → Stands s at ((bond_text b ++ atom_text k) ++ q)
    → line_p (bodies f s room) s (led_at s at).next (led_at s at).value K
    ≡ Enter (Bond b) k (at + length (bond_text b)) ∷ bodies f s room (at + length (bond_text b) + length (atom_text k)) (0 + 1) K
unfolding line_p atom_p found_p
opened_read f s room at K q b k ok c h =
    let l = leads b (atom_text k) q (atom_plain k ok) h in
    let a = atom_read k q ok c (after (bond_text b) (atom_text k ++ q) (apart (bond_text b) (atom_text k) q h)) in
    simp (l.lead, l.next, a)

-- the line's end
pub end_read : (f : ℕ) (s : List ℕ) (room at n : ℕ) → Stands s at [] → bodies (suc f) s room at n (end_p s) ≡ []
unfolding bodies body_at end_p peek_at
end_read f s room at n h =
    let z : peek_at s at ≡ 256 = front s at h.is in
    let e : at ≡ length s = omega (arith, h.ends) in
    simp (z, le-ltb at (length s) (omega arith))
