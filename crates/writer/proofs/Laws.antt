-- What the writer's functions owe: texts laid in a lent part, a byte inserted, and the words of a writer. Assumes nothing.
use Prim.Native.Nat.{ℕ, zero, suc, ◌+◌, ◌-◌, ◌≤◌, ◌<◌, min}
use mathlib.Core.Path.{◌≡◌, refl, sym, ap, ◌∙◌}
use mathlib.Core.List.{List, [], ◌∷◌, ◌++◌, append-nil, append_assoc}
use native.Mathlib.Omega.{arith}
use lib.ListN.{length, take, drop, set, length-drop, drop_of_length-le}
use lib.Seq.{sets, sets-eq, paste, length-sets, length-take-le, take_all, take-take, set_out}
use lib.Dec.{ltb}
use mathlib.Core.Bool.{Bool, true, false}
use borrow.Author.Tests.{ltb-true, ltb-false, lt-leb, ne_eqb}
use borrow.Rule.Slice.PartMut.{mid_of, put_mid}
use Rattle.table.proofs.Stores.{sets_out, sets_same, sets_parts}
use Rattle.feature.specs.Text.{byte, bytes}
use Rattle.feature.proofs.Lists.{sets_append}
use Rattle.table.specs.Limits.{lesser_of, RoomOf}
use Rattle.spell.specs.Spell.{Laid}
use Rattle.table.proofs.Rooms.{lesser_cases}
use Rattle.writer.specs.declared.Writer.{Writer}
use Rattle.writer.specs.Line.{wrapped}
use Rattle.writer.specs.Tables.{spoken, writer, piece_room, added, piece_t, lengthened, join_t, bytes_from}

-- ---- a text in a lent part
-- a part put back from a place within
part_back : (out d text : List ℕ) (f at : ℕ) → take f out ≡ take at out → drop f out ≡ drop at out → f ≤ length out
    → d ≡ sets (mid_of f (length out - f) out) 0 text → put_mid f (length out - f) out d ≡ sets out at text
part_back out d text f at t p h e =
    let m : mid_of f (length out - f) out ≡ drop at out =
    take_all (length out - f) (drop f out) (simp length-drop (omega arith)) ∙ p in
    let z : drop (length out - f) (drop f out) ≡ [] =
    drop_of_length-le (drop f out) {i = length out - f} (simp length-drop (omega arith)) in
    ap (λ (r : List ℕ). take f out ++ (d ++ r)) z
    ∙ ap (λ (r : List ℕ). take f out ++ r) (append-nil d)
    ∙ ap (λ (r : List ℕ). r ++ d) t
    ∙ ap (λ (r : List ℕ). take at out ++ r) (e ∙ ap (λ (r : List ℕ). sets r 0 text) m)
    ∙ sets_parts at out text

-- also where the place is past the end
pub lay_part : (out d text : List ℕ) (f at n r : ℕ) → RoomOf (length out) at f
    → Laid n (mid_of f (length out - f) out) 0 text d r → Laid n out at text (put_mid f (length out - f) out d) (at + r)
lay_part out d text f at n r o a =
    record {
      is = lesser_cases (length out) at f o.is
          (λ h e. part_back out d text f at (ap (λ (k : ℕ). take k out) e) (ap (λ (k : ℕ). drop k out) e) (omega arith) a.is)
          (λ h e. part_back out d text f at
          (take_all f out (omega arith) ∙ sym (take_all at out h))
          (drop_of_length-le out {i = f} (omega arith) ∙ sym (drop_of_length-le out {i = at} h))
          (omega arith) a.is);
      next = omega (arith, a.next);
      small = omega (arith, a.small);
    }

-- ---- a byte inserted: the bytes from its place on move one place on
set_last : (k b : ℕ) (xs ys zs : List ℕ) → length xs ≡ suc k → set ((xs ++ ys) ++ zs) k b ≡ take k xs ++ (b ∷ (ys ++ zs))
set_last zero b (x ∷ []) ys zs e = refl
set_last zero b (x ∷ y ∷ xs) ys zs e = absurd (omega (arith, e))
set_last zero b [] ys zs e = absurd (omega (arith, e))
set_last (suc k) b (x ∷ xs) ys zs e = ap (λ (l : List ℕ). x ∷ l) (set_last k b xs ys zs (omega (arith, e)))
set_last (suc k) b [] ys zs e = absurd (omega (arith, e))

moved_on : (out : List ℕ) (at b n : ℕ) → at + suc n ≤ length out
    → set (paste out (at + 1) (drop at out) n) at b ≡ sets out at (b ∷ take n (drop at out))
moved_on out at b n h =
    let front : length (take (at + 1) out) ≡ suc at = length-take-le (at + 1) out (omega arith) ∙ omega arith in
    let least : take at (take (at + 1) out) ≡ take at out = take-take at (at + 1) out (omega arith) in
    let long : length (take n (drop at out)) ≡ n = length-take-le n (drop at out) (omega (arith, length-drop at out)) in
    let rest : at + 1 + n ≡ at + suc (length (take n (drop at out))) = omega (arith, long) in
    set_last at b (take (at + 1) out) (take n (drop at out)) (drop (at + 1 + n) out) front
    ∙ ap (λ (l : List ℕ). l ++ (b ∷ (take n (drop at out) ++ drop (at + 1 + n) out))) least
    ∙ ap (λ (k : ℕ). take at out ++ (b ∷ (take n (drop at out) ++ drop k out))) rest
    ∙ sym (sets-eq (b ∷ take n (drop at out)) out at (omega (arith, long)) ∙ append_assoc (take at out) (b ∷ take n (drop at out)) (drop (at + suc (length (take n (drop at out)))) out))

pub inserted : (out : List ℕ) (at b end stop : ℕ) → at ≤ end → at < length out → stop ≡ min (length out) (end + 1)
    → set (paste out (at + 1) (drop at out) (stop - 1 - at)) at b ≡ sets out at (b ∷ bytes_from at (end - at) out)
inserted out at b end stop h l s = go (ltb (end + 1) (length out)) refl where
  go : (q : Bool) → ltb (end + 1) (length out) ≡ q → set (paste out (at + 1) (drop at out) (stop - 1 - at)) at b ≡ sets out at (b ∷ bytes_from at (end - at) out)
  go true q =
      let less = ltb-true (end + 1) (length out) q in
      let n : stop - 1 - at ≡ end - at = omega arith in
      moved_on out at b (stop - 1 - at) (omega arith) ∙ ap (λ (j : ℕ). sets out at (b ∷ take j (drop at out))) n
  go false q =
      let most = ltb-false (end + 1) (length out) q in
      let n : length out - at ≡ suc (stop - 1 - at) = omega arith in
      moved_on out at b (stop - 1 - at) (omega arith)
      ∙ sets_same out at (b ∷ take (stop - 1 - at) (drop at out)) (b ∷ take (end - at) (drop at out))
      (rw n (ap (λ (l : List ℕ). b ∷ l)
      (take-take (stop - 1 - at) (stop - 1 - at) (drop at out) (omega arith)
      ∙ sym (take-take (stop - 1 - at) (end - at) (drop at out) (omega arith)))))

-- ---- brackets
pub wrap_both : (out mid last : List ℕ) (at end r n : ℕ) → at ≤ end → mid ≡ sets out at (byte "(" ∷ bytes_from at (end - at) out)
    → Laid n mid (end + 1) (bytes ")") last r → last ≡ sets out at (wrapped (bytes_from at (end - at) out))
unfolding wrapped
wrap_both out mid last at end r n h e a =
    a.is
    ∙ lesser_cases (length out) end (lesser_of (length out) end) refl
    (λ g z.
    let k : length (bytes_from at (end - at) out) ≡ end - at = length-take-le (end - at) (drop at out) (simp length-drop (omega arith)) in
    ap (λ (l : List ℕ). sets l (end + 1) (bytes ")")) e
    ∙ ap (λ (j : ℕ). sets (sets out at (byte "(" ∷ bytes_from at (end - at) out)) j (bytes ")")) (omega (arith, k)))
    (λ g z.
    let k : length mid ≡ length out = ap length e ∙ length-sets out at (byte "(" ∷ bytes_from at (end - at) out) in
    let m : length (bytes_from at (end - at) out) ≡ length out - at =
    ap length (take_all (end - at) (drop at out) (simp length-drop (omega arith))) ∙ length-drop at out in
    sets_out mid (bytes ")") (end + 1) (omega arith)
    ∙ e
    ∙ sym (sets_out (sets out at (byte "(" ∷ bytes_from at (end - at) out)) (bytes ")") (at + suc (length (bytes_from at (end - at) out))) (simp length-sets (omega arith))))
    ∙ sym (sets_append out at (byte "(" ∷ bytes_from at (end - at) out) (bytes ")"))

-- ---- the words of a writer
module _ (w : Writer) (out starts : List ℕ) where
  pub piece_more : (room n m v : ℕ) (text out' starts' : List ℕ) → room ≡ piece_room starts → w.pieces < room
      → Laid n out w.len text out' m → starts' ≡ set starts w.pieces v → v ≡ w.len
      → spoken (writer (w.pieces + 1) m) out' starts' ≡ piece_t (spoken w out starts) text
  unfolding piece_t added
  piece_more room n m v text out' starts' e h a f g =
      ap (λ (z : List ℕ). spoken (writer (w.pieces + 1) m) out' z) (f ∙ ap (λ (k : ℕ). set starts w.pieces k) g)
      ∙ ap (λ (z : List ℕ). spoken (writer (w.pieces + 1) m) z (set starts w.pieces w.len)) a.is
      ∙ ap (λ (k : ℕ). spoken (writer (w.pieces + 1) k) (sets out w.len text) (set starts w.pieces w.len)) a.next
      ∙ simp (lt-leb _ _ (rw e at h))

  pub join_more : (n m : ℕ) (text out' : List ℕ) → (w.pieces ≡ 0 → ⊥) → Laid n out w.len text out' m
      → spoken (writer w.pieces m) out' starts ≡ join_t (spoken w out starts) text
  unfolding join_t lengthened
  join_more n m text out' h a =
      ap (λ (z : List ℕ). spoken (writer w.pieces m) z starts) a.is
      ∙ ap (λ (k : ℕ). spoken (writer w.pieces k) (sets out w.len text) starts) a.next
      ∙ simp (ne_eqb _ _ h)
