-- The answer to numbers that stand for no writer's state, atom or ring number is 17, carries 0 and changes nothing; and a
-- call's claim settles its answer. Assumes nothing.
use Prim.Native.Nat.{ℕ}
use mathlib.Core.Path.{◌≡◌, refl, sym, ap, ◌∙◌}
use mathlib.Core.Bool.{Bool, false}
use mathlib.Core.List.{List, [], ◌∷◌}
use lib.ListN.{get_or}
use lib.Dec.{eqb}
use Rattle.feature.specs.Pick.{pick, both}
use Rattle.writer.specs.Line.{Event}
use Rattle.writer.specs.Tables.{Spoken, writer}
use Rattle.desk_numbers.specs.Numbers as desk
use Rattle.desk_numbers.proofs.One.{one_result}
use Rattle.std.specs.Prelude as std
use Rattle.std.specs.Prelude.{Err, Ok}
use Rattle.desk_writer.specs.declared.Refusal.TheVariants.{NoPiece, BadTable, AtomRoom, OutRoom, Overpop}
use Rattle.desk_writer.specs.declared.Refusal.{Refusal}
use Rattle.writer.specs.declared.Writer.{Writer}
use Rattle.desk_writer.specs.Pieces as pieces

pub writer_17 : (ok : Bool) (s : Spoken) (e : Event) → both ok (pieces.is_writer s) ≡ false → pieces.event_d ok s e ≡ pieces.event_leaves (Err BadTable) s.out s.starts
unfolding pieces.event_d
writer_17 ok s e h = simp h

pub writer_bad : pieces.said_told (Err BadTable) ≡ desk.told desk.bad_table (0 ∷ [])
unfolding pieces.said_told
writer_bad = refl

-- ---- one answer
-- the numbers, the values and the state tell the answer
said_by : pieces.EventLeft → std.Result Writer Refusal
said_by l =
    pick (eqb l.told.number desk.done) (Ok (writer (get_or l.state 0 0) (get_or l.state 1 0)))
    (pick (eqb l.told.number desk.atom_room) (Err (AtomRoom (get_or l.told.values 0 0)))
    (pick (eqb l.told.number desk.out_room) (Err (OutRoom (get_or l.told.values 0 0)))
    (pick (eqb l.told.number desk.no_atom) (Err NoPiece)
    (pick (eqb l.told.number desk.overpop) (Err Overpop) (Err BadTable)))))

known : (r : std.Result Writer Refusal) (o t : List ℕ) → said_by (pieces.event_leaves r o t) ≡ r
unfolding said_by pieces.said_told pieces.writer_words
known (Ok w) o t = refl
known (Err (AtomRoom n)) o t = refl
known (Err (OutRoom n)) o t = refl
known (Err NoPiece) o t = refl
known (Err Overpop) o t = refl
known (Err BadTable) o t = refl

pub one_answer : {r q : std.Result Writer Refusal} {o p s t : List ℕ} → pieces.event_leaves r o s ≡ pieces.event_leaves q p t → r ≡ q
one_answer {r} {q} {o} {p} {s} {t} e = sym (known r o s) ∙ ap said_by e ∙ known q p t

-- what a call hands back: its answer, the output and the starts that are left
pub record Result : Type 0 where
  pub answer : std.Result Writer Refusal
  pub out : List ℕ
  pub starts : List ℕ

abbrev result : std.Result Writer Refusal → List ℕ → List ℕ → Result
result r o t = record { answer = r; out = o; starts = t }

-- two results that meet the promise of an event, whichever it is, are equal
pub one_event : (ok : Bool) (s : Spoken) (e : Event) (x y : Result) → pieces.event_leaves x.answer x.out x.starts ≡ pieces.event_d ok s e
    → pieces.event_leaves y.answer y.out y.starts ≡ pieces.event_d ok s e → x ≡ y
one_event ok s e =
    one_result (λ (x : Result). pieces.event_leaves x.answer x.out x.starts) (λ (l : pieces.EventLeft). result (said_by l) l.out l.starts)
    (λ x. ap (λ (r : std.Result Writer Refusal). result r x.out x.starts) (known x.answer x.out x.starts)) (pieces.event_d ok s e)
