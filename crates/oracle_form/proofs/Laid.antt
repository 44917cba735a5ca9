-- What an output holds after a word, as much of it as there is room for.
use Rattle.std.proofs.Common.{◌≡◌, ℕ, ◌+◌, ◌-◌, ◌≤◌, List, ◌++◌, length, take, min, sym, ap, ◌∙◌, arith, length-take}
use Rattle.std.proofs.lemmas.List.{take_min}
use Rattle.std.proofs.lemmas.Slice.{take-put_mid}
use Rattle.std.proofs.Math.Seq.{take-append-add}
use borrow.Rule.Slice.PartMut.{put_mid}

pub laid_word : (room word part : List ℕ) (e n k : ℕ) → e ≤ length room
    → n ≡ min (length word) (length room - e) → part ≡ take n word
    → take (e + n) (put_mid e k room part) ≡ take (length room) (take e room ++ word)
laid_word room word part e n k inside some is_part =
    let free : ℕ = length room - e in
    let same : n ≡ min free (length word) = omega arith in
    let front : length (take e room) ≡ e = length-take e room ∙ omega arith in
    let long : length part ≡ n = ap length is_part ∙ length-take n word ∙ omega arith in
    let whole : length (take e room) + free ≡ length room = omega (arith, front) in
    let laid : take (e + n) (put_mid e k room part) ≡ take e room ++ part = take-put_mid e k room part (e + n) (omega arith) inside in
    let cut : part ≡ take free word = is_part ∙ ap (λ i. take i word) same ∙ take_min free word in
    laid ∙ ap (λ l. take e room ++ l) cut ∙ sym (take-append-add (take e room) word free) ∙ ap (λ i. take i (take e room ++ word)) whole
