-- The events of a text are such that tables and sketch stay the same: every ring number is below a hundred. Assumes nothing.
use Prim.Native.Nat.{ℕ, zero, suc, ◌+◌, ◌-◌}
use mathlib.Core.Path.{◌≡◌, refl}
use mathlib.Core.List.{List}
use lib.ListN.{length}
use lib.Dec.{ltb, eqb}
use Rattle.feature.specs.Text.{byte}
use Rattle.feature.specs.declared.bond_kind.BondKind.{BondKind}
use Rattle.feature.proofs.Cases.{by_either}
use Rattle.read_token.specs.Scan.{peek_at, atom_at, rnum_at}
use Rattle.std.specs.Prelude.{Err, None, Ok, Some}
use Rattle.read_token.specs.Scan.{Ring}
use Rattle.read_token.specs.Scan.{Found}
use Rattle.read_token.proofs.Within.{ring_in}
use Rattle.table.specs.Limits.{branch_limit}
use Rattle.read_line.specs.declared.lead.Lead.{Lead}
use Rattle.read_line.specs.declared.lead.Lead.TheVariants.{Dot, Bond}
use Rattle.read_line.specs.Events.{ReadEvent}
use Rattle.read_line.specs.Parse.{Rest, led_at, body_at, miss_p, found_p, atom_p, ring_p, union_by, union_p, unit_by, unit_p, line_p, close_p, branch_p, bodies, end_p, parse}
use Rattle.read_line.proofs.Bodies.{by_body_lem}
use Rattle.builder_meaning.proofs.Run.{AllOk}

-- what follows is such
abbrev OkRest : Rest → Type 0
OkRest k = (at n : ℕ) → AllOk (k at n)

miss_ok : (s : List ℕ) (at : ℕ) → AllOk (miss_p s at)
unfolding miss_p
miss_ok s at = (tt, tt)

module _ (s : List ℕ) (k : Rest) (ok : OkRest k) where
  found_ok : (at : ℕ) (l : Lead) (n : ℕ) (f : Found) → AllOk (found_p s at l n k f)
  unfolding found_p
  found_ok at l n (Ok (Some (kind, next))) = (tt, ok next (n + 1))
  found_ok at l n (Ok None) = miss_ok s at
  found_ok at l n (Err m) = (tt, tt)

  atom_ok : (at : ℕ) (l : Lead) (n : ℕ) → AllOk (atom_p s at l n k)
  unfolding atom_p
  atom_ok at l n = found_ok at l n (atom_at s at)

  ring_ok : (at : ℕ) (e : BondKind) (n : ℕ) (r : Ring) → rnum_at s at ≡ r → AllOk (ring_p s at e n k r)
  unfolding ring_p
  ring_ok at e n (Ok (Some (r, next))) q = ((ring_in s at q).0, ok next n)
  ring_ok at e n (Ok None) q = miss_ok s at
  ring_ok at e n (Err m) q = (tt, tt)

  union_by_lem : (at : ℕ) (e : BondKind) (n : ℕ) (f : Found) → AllOk (union_by s at e n k f)
  unfolding union_by
  union_by_lem at e n (Ok (Some (kind, next))) = (tt, ok next (n + 1))
  union_by_lem at e n (Ok None) = ring_ok at e n (rnum_at s at) refl
  union_by_lem at e n (Err m) = (tt, tt)

  unit_by_lem : (at n : ℕ) (l : Lead) → AllOk (unit_by s at n k l)
  unfolding unit_by union_p
  unit_by_lem at n Dot = atom_ok at Dot n
  unit_by_lem at n (Bond e) = union_by_lem at e n (atom_at s at)

  unit_ok : (at n : ℕ) → AllOk (unit_p s at n k)
  unfolding unit_p
  unit_ok at n = unit_by_lem (led_at s at).next n (led_at s at).value

close_ok : (s : List ℕ) (k : ℕ → List ReadEvent) → ((at : ℕ) → AllOk (k at)) → OkRest (close_p s k)
unfolding close_p
close_ok s k ok at n = by_either AllOk (eqb (peek_at s at) (byte ")")) (tt, ok (at + 1)) (miss_ok s at)

line_ok : (more : ℕ → ℕ → Rest → List ReadEvent) (s : List ℕ) (k : Rest) → ((at n : ℕ) → AllOk (more at n k)) → (at : ℕ) (l : Lead) → AllOk (line_p more s at l k)
unfolding line_p
line_ok more s k ok at l = atom_ok s (λ at' n'. more at' n' k) ok at l 0

branch_ok : (more : ℕ → ℕ → ℕ → Rest → List ReadEvent) (s : List ℕ) → ((room at n : ℕ) (k : Rest) → OkRest k → AllOk (more room at n k)) → (at room : ℕ) (k : ℕ → List ReadEvent) → ((at : ℕ) → AllOk (k at)) → AllOk (branch_p more s at room k)
unfolding branch_p
branch_ok more s m at room k ok =
    by_either AllOk (eqb room 0) (tt, tt)
    (line_ok (more (room - 1)) s (close_p s k) (λ at' n'. m (room - 1) at' n' (close_p s k) (close_ok s k ok)) (led_at s (at + 1)).next (led_at s (at + 1)).value)

bodies_ok : (f : ℕ) (s : List ℕ) (room at n : ℕ) (k : Rest) → OkRest k → AllOk (bodies f s room at n k)
unfolding bodies
bodies_ok zero s room at n k ok = tt
bodies_ok (suc f) s room at n k ok =
    by_body_lem AllOk (body_at s at) (ok at n)
    (branch_ok (bodies f s) s (λ r a m j o. bodies_ok f s r a m j o) at room (λ at'. bodies f s room at' n k) (λ at'. bodies_ok f s room at' n k ok))
    (unit_ok s (λ at' n'. bodies f s room at' n' k) (λ at' n'. bodies_ok f s room at' n' k ok) at n)

end_ok : (s : List ℕ) → OkRest (end_p s)
unfolding end_p
end_ok s at n = by_either AllOk (ltb at (length s)) (tt, tt) tt

pub text_ok : (s : List ℕ) → AllOk (parse s)
unfolding parse
text_ok s =
    line_ok (bodies (length s + 1) s branch_limit) s (end_p s) (λ at n. bodies_ok (length s + 1) s branch_limit at n (end_p s) (end_ok s)) 0 Dot
