-- What a call hands out can be handed in again, as long as its line is below 2^31: it is not answered 17. Assumes nothing.
use Prim.Native.Nat.{ℕ, ◌≤◌, ◌<◌}
use mathlib.Core.Path.{◌≡◌, refl, ap}
use mathlib.Core.Bool.{Bool, true, false}
use mathlib.Core.List.{List}
use native.Mathlib.Omega.{arith}
use lib.ListN.{length, length-append, length-take, length-replicate}
use lib.Dec.{eqb}
use Rattle.feature.specs.Pick.{pick, both}
use Rattle.feature.proofs.Cases.{both_second, impossible}
use Rattle.writer.specs.declared.Writer.{Writer}
use Rattle.std.specs.Prelude.{Err, Ok, Result}
use Rattle.writer.specs.declared.WriterError.{WriterError}
use Rattle.writer.specs.Line.{Event}
use Rattle.writer.specs.Tables.{Spoken, spoken, event_of, far}
use Rattle.desk_writer.specs.declared.Refusal.{Refusal}
use Rattle.desk_writer.specs.declared.Refusal.TheVariants.{BadTable}
use Rattle.table.specs.Zeros.{cleared_from}
use Rattle.desk_writer.specs.Pieces.{is_writer, refused_as, tail_of, wrote_said, EventLeft, event_leaves, told_leaves, event_d}
use Rattle.desk_writer.proofs.WriterKept as writer_kept_lem
use Rattle.desk_writer.proofs.Results.{one_answer}

-- clearing does not change a length, and the test of a state looks at nothing else of an output
cleared_long : (n : ℕ) (o : List ℕ) → n ≤ length o → length (cleared_from n o) ≡ length o
unfolding cleared_from
cleared_long n o h = simp (length-append, length-take, length-replicate {A = ℕ}) (omega arith)

tail_long : (q : Bool) (n : ℕ) (o : List ℕ) → n ≤ length o → length (pick q (cleared_from n o) o) ≡ length o
tail_long true n o h = cleared_long n o h
tail_long false n o h = refl

same_writer : (w : Writer) (o p t : List ℕ) → length p ≡ length o → is_writer (spoken w o t) ≡ true → is_writer (spoken w p t) ≡ true
unfolding is_writer
same_writer w o p t e h = rw e h

held_again : (w : Writer) (out starts o t : List ℕ) (s : Spoken) (r : Result Writer WriterError) → writer_kept_lem.KeepsBy s o t r → event_leaves (Ok w) out starts ≡ event_leaves (wrote_said r) (tail_of s.at r o) t → w.len < far → is_writer (spoken w out starts) ≡ true
unfolding wrote_said tail_of
held_again w out starts o t s (Ok v) h e near =
    let answers : ◌≡◌ {A = Result Writer Refusal} (Ok w) (Ok v) = one_answer e in
    let same : w ≡ v = cc in
    let outs : out ≡ pick (eqb s.at.pieces 0) (cleared_from v.len o) o = ap (λ (x : EventLeft). x.out) e in
    let places : starts ≡ t = ap (λ (x : EventLeft). x.starts) e in
    let stands = h (rw same at near) in
    rw (same, outs, places) (same_writer v o (pick (eqb s.at.pieces 0) (cleared_from v.len o) o) t (tail_long (eqb s.at.pieces 0) v.len o (writer_kept_lem.facts (spoken v o t) stands).line) stands)
held_again w out starts o t s (Err why) h e near = absurd (let y : ◌≡◌ {A = Result Writer Refusal} (Ok w) (Err (refused_as why)) = one_answer e in impossible cc)

pub said_again : (ok : Bool) (s : Spoken) (e : Event) (w : Writer) (out starts : List ℕ) → event_leaves (Ok w) out starts ≡ event_d ok s e → w.len < far → is_writer (spoken w out starts) ≡ true
unfolding event_d told_leaves
said_again ok s e w out starts d near = go (both ok (is_writer s)) refl d where
  go : (t : Bool) → both ok (is_writer s) ≡ t → event_leaves (Ok w) out starts ≡ pick t (told_leaves s.at (event_of s e)) (event_leaves (Err BadTable) s.out s.starts) → is_writer (spoken w out starts) ≡ true
  go true t f = held_again w out starts (event_of s e).out (event_of s e).starts s (event_of s e).answer (writer_kept_lem.event_kept s e (both_second ok (is_writer s) t)) f near
  go false t f = absurd (let y : ◌≡◌ {A = Result Writer Refusal} (Ok w) (Err BadTable) = one_answer f in impossible cc)
