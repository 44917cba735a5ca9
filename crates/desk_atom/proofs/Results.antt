-- A call's claim settles its answer: the scope's number and values, with the kind that was read, tell each case from the
-- others. Assumes nothing.
use Prim.Native.Nat.{ℕ}
use mathlib.Core.Path.{◌≡◌, refl, sym, ap, ◌∙◌}
use mathlib.Core.List.{List, [], ◌∷◌}
use lib.ListN.{get_or}
use lib.Dec.{eqb}
use Rattle.feature.specs.Pick.{pick}
use Rattle.feature.specs.declared.atom_kind.AtomKind.{AtomKind}
use Rattle.desk_numbers.specs.Numbers.{Told, done, end_of_line, out_room}
use Rattle.desk_numbers.proofs.One.{one_result}
use Rattle.std.specs.Prelude as std
use Rattle.std.specs.Prelude.{Err, Ok}
use Rattle.read_token.specs.declared.scanner.Missing.TheVariants.{Character, EndOfLine}
use Rattle.read_token.specs.declared.scanner.Missing.{Missing}
use Rattle.desk_atom.specs.declared.Refusal.TheVariants.{BadTable, OutRoom}
use Rattle.desk_atom.specs.declared.Refusal.{Refusal}
use Rattle.desk_atom.specs.Texts.{AtomTold, tells_atom, begins_told, kinds_in, Spells, spelt, spelt_told, first_atom, texted, atom_d, rnum_d}

-- ---- reading
begun_by : Told → List AtomKind → std.Result (AtomKind × ℕ) Missing
begun_by t [] = pick (eqb t.number end_of_line) (Err EndOfLine) (Err (Character (get_or t.values 0 0)))
begun_by t (k ∷ ks) = Ok (k, get_or t.values 0 0)

begun_known : (b : std.Result (AtomKind × ℕ) Missing) → begun_by (begins_told b) (kinds_in b) ≡ b
unfolding begun_by begins_told kinds_in
begun_known (Ok (k, next)) = refl
begun_known (Err EndOfLine) = refl
begun_known (Err (Character place)) = refl

pub one_reading : {b c : std.Result (AtomKind × ℕ) Missing} → tells_atom b ≡ tells_atom c → b ≡ c
one_reading {b} {c} e = sym (begun_known b) ∙ ap (λ (r : AtomTold). begun_by r.told r.kinds) e ∙ begun_known c

-- ---- spelling
spelt_by : Told → std.Result ℕ Refusal
spelt_by t =
    pick (eqb t.number done) (Ok (get_or t.values 0 0))
    (pick (eqb t.number out_room) (Err (OutRoom (get_or t.values 0 0))) (Err BadTable))

spelt_known : (s : std.Result ℕ Refusal) → spelt_by (spelt_told s) ≡ s
unfolding spelt_by spelt_told
spelt_known (Ok n) = refl
spelt_known (Err (OutRoom n)) = refl
spelt_known (Err BadTable) = refl

pub one_spelling : {r s : std.Result ℕ Refusal} {o p : List ℕ} → spelt r o ≡ spelt s p → r ≡ s
one_spelling {r} {s} e = sym (spelt_known r) ∙ ap (λ (x : Spells). spelt_by x.told) e ∙ spelt_known s

-- ---- two results that meet a promise are equal
pub one_read_atom : (text : List ℕ) (x y : std.Result (AtomKind × ℕ) Missing) → tells_atom x ≡ first_atom text → tells_atom y ≡ first_atom text → x ≡ y
one_read_atom text = one_result tells_atom (λ (r : AtomTold). begun_by r.told r.kinds) begun_known (first_atom text)

-- what a call hands back: its answer, and the output that is left
pub record Result : Type 0 where
  pub answer : std.Result ℕ Refusal
  pub out : List ℕ

abbrev result : std.Result ℕ Refusal → List ℕ → Result
result r o = record { answer = r; out = o }

pub one_spelt : (claim : Spells) (x y : Result) → spelt x.answer x.out ≡ claim → spelt y.answer y.out ≡ claim → x ≡ y
one_spelt =
    one_result (λ (x : Result). spelt x.answer x.out) (λ (s : Spells). result (spelt_by s.told) s.out)
    (λ x. ap (λ (r : std.Result ℕ Refusal). result r x.out) (spelt_known x.answer))

pub one_spell_atom : (k : AtomKind) (n : ℕ) (x y : Result) → spelt x.answer x.out ≡ atom_d k n → spelt y.answer y.out ≡ atom_d k n → x ≡ y
one_spell_atom k n = one_spelt (atom_d k n)

pub one_spell_bond : (text : List ℕ) (n : ℕ) (x y : Result) → spelt x.answer x.out ≡ texted text n → spelt y.answer y.out ≡ texted text n → x ≡ y
one_spell_bond text n = one_spelt (texted text n)

pub one_spell_rnum : (r n : ℕ) (x y : Result) → spelt x.answer x.out ≡ rnum_d r n → spelt y.answer y.out ≡ rnum_d r n → x ≡ y
one_spell_rnum r n = one_spelt (rnum_d r n)
