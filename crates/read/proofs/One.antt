-- The desk's numbers tell the answers of the read call apart, so what its promise settles in numbers it settles altogether:
-- two results that meet the promise are equal. Assumes nothing.
use Prim.Native.Nat.{ℕ}
use mathlib.Core.Path.{◌≡◌, refl, ap}
use mathlib.Core.List.{List}
use lib.ListN.{get_or}
use lib.Dec.{eqb}
use Rattle.feature.specs.Pick.{pick}
use Rattle.desk_numbers.specs.Numbers.{Told, done, end_of_line, character, join, rnum, inversion, text_too_long, atom_room, bond_room, nesting}
use Rattle.desk_numbers.proofs.One.{same_result, one_result}
use Rattle.std.specs.Prelude.{Err, Ok}
use Rattle.read.specs.Read.{graph_size}
use Rattle.read.specs.Read.{Answer}
use Rattle.read.specs.declared.ReadError.TheVariants.{EndOfLine, Character, Join, Rnum, Inversion, TextTooLong, AtomRoom, BondRoom, Nesting, NoAtom}
use Rattle.read.specs.Read.{Said, said}
use Rattle.read.specs.Line.{read_text}
use Rattle.read.specs.Numbers.{read_told, ReadNumbered, read_in_numbers}

-- the answer with a number and values
abbrev answer_to : Told → Answer
answer_to t =
    let first : ℕ = get_or t.values 0 0 in
    let second : ℕ = get_or t.values 1 0 in
    pick (eqb t.number done) (Ok (graph_size first second))
    (pick (eqb t.number end_of_line) (Err EndOfLine)
    (pick (eqb t.number character) (Err (Character first))
    (pick (eqb t.number join) (Err (Join first second))
    (pick (eqb t.number rnum) (Err (Rnum first))
    (pick (eqb t.number inversion) (Err (Inversion first))
    (pick (eqb t.number text_too_long) (Err (TextTooLong first))
    (pick (eqb t.number atom_room) (Err (AtomRoom first))
    (pick (eqb t.number bond_room) (Err (BondRoom first))
    (pick (eqb t.number nesting) (Err (Nesting first))
    (Err NoAtom))))))))))

answer_back : (a : Answer) → answer_to (read_told a) ≡ a
unfolding read_told
answer_back (Ok size) = refl
answer_back (Err EndOfLine) = refl
answer_back (Err (Character p)) = refl
answer_back (Err (Join x y)) = refl
answer_back (Err (Rnum j)) = refl
answer_back (Err (Inversion a)) = refl
answer_back (Err (TextTooLong n)) = refl
answer_back (Err (AtomRoom p)) = refl
answer_back (Err (BondRoom p)) = refl
answer_back (Err (Nesting p)) = refl
answer_back (Err NoAtom) = refl

-- no two answers have the same number and values
pub same_answer : (a b : Answer) → read_told a ≡ read_told b → a ≡ b
same_answer = same_result read_told answer_to answer_back

abbrev said_by : ReadNumbered → Said
said_by n = said (answer_to n.answer) n.atoms n.bonds

said_back : (x : Said) → said_by (read_in_numbers x) ≡ x
said_back x = ap (λ (a : Answer). said a x.atoms x.bonds) (answer_back x.answer)

-- what is left is the same if it is in numbers
pub same_said : (x y : Said) → read_in_numbers x ≡ read_in_numbers y → x ≡ y
same_said = same_result read_in_numbers said_by said_back

-- the read call
pub one_read : (s : List ℕ) (la lb : ℕ) (x y : Said) → read_in_numbers x ≡ read_in_numbers (read_text s la lb) → read_in_numbers y ≡ read_in_numbers (read_text s la lb) → x ≡ y
one_read s la lb = one_result read_in_numbers said_by said_back (read_in_numbers (read_text s la lb))
