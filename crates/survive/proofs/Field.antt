-- A field of a bracket atom by its reader, its text, the values that survive and the bytes that may follow. A value that
-- survives is read where its text is, and a value that is read survives. Assumes nothing.
use Prim.Native.Nat.{ℕ, ◌+◌, ◌<◌}
use mathlib.Core.Path.{◌≡◌, refl, ◌∙◌, ap, sym, subst}
use mathlib.Core.List.{List, [], ◌∷◌, ◌++◌}
use mathlib.Core.Bool.{Bool, true, false}
use native.Mathlib.Omega.{arith}
use native.Mathlib.Nat.{add-zero}
use lib.ListN.{length, replicate, drop}
use lib.Dec.{T, eqb, eqb→eq}
use borrow.Author.Tests.{eq-eqb}
use Rattle.feature.specs.Pick.{neither}
use Rattle.feature.proofs.Table.{every_entry, both_left, both_right}
use Rattle.feature.proofs.Cases.{impossible, ok_parts}
use Rattle.read_token.specs.declared.scanner.Part.{Part}
use Rattle.std.specs.Prelude.{Err, Ok}
use Rattle.read_token.specs.Scan.{Step}
use Rattle.survive.proofs.Checked.{mem, all, all_mem, below, agrees}
use Rattle.survive.proofs.Shift.{onward, onward_got}

-- a reader that always finds something, as one that may not
abbrev pub got : Part ℕ → Step
got p = Ok (p.value, p.next)

-- whether a value is read as it should be where its text is with a byte after it
abbrev pub test : (List ℕ → ℕ → Step) → (ℕ → List ℕ) → (ℕ → Bool) → List ℕ → ℕ → ℕ → Bool
test read text stays t v x = agrees (stays v) (read (text v ++ (x ∷ t)) 0) v (length (text v))

-- the reader, the text, the values that survive, how many values there are and which bytes may follow; the reader reads the
-- same of a rest wherever it is, and each value that survives as itself, no other so
pub record Field : Type 0 where
  pub read : List ℕ → ℕ → Step
  pub text : ℕ → List ℕ
  pub stays : ℕ → Bool
  pub limit : ℕ
  pub after : List ℕ
  pub moves : (s : List ℕ) (n j : ℕ) → read s (n + j) ≡ onward n (read (drop n s) j)
  pub reads : (v x : ℕ) (t : List ℕ) → v < limit → T (mem after x) → T (test read text stays t v x)

-- ---- which byte a text starts with
pub record Starts (xs t : List ℕ) : Type 0 where
  pub head : ℕ
  pub rest : List ℕ
  pub is : t ≡ head ∷ rest
  pub ok : T (mem xs head)

-- a text starts with one of some bytes, or is empty and all that may follow are among them
abbrev pub leads : List ℕ → List ℕ → List ℕ → Bool
leads before after [] = all (mem before) after
leads before after (x ∷ xs) = mem before x

starts : (before after xs t : List ℕ) → T (leads before after xs) → Starts after t → Starts before (xs ++ t)
starts before after [] t h s =
    record { head = s.head; rest = s.rest; is = s.is; ok = all_mem (mem before) after s.head h s.ok }
starts before after (x ∷ xs) t h s = record { head = x; rest = xs ++ t; is = refl; ok = h }

module _ (F G : Field) where
  -- each text of G, or what follows it where it is empty, starts with a byte that may follow F
  abbrev pub joins : Bool
  joins = every_entry (λ v z. leads F.after G.after (G.text v)) 0 (replicate G.limit 0)

  -- so field G may come after field F
  pub joined : T joins → (v : ℕ) (t : List ℕ) → v < G.limit → Starts G.after t → Starts F.after (G.text v ++ t)
  joined j v t l s =
      starts F.after G.after (G.text v) t (below (λ v. leads F.after G.after (G.text v)) G.limit j v l) s

-- ---- a value's text is at a place, with a byte after it that may follow
pub record Here (F : Field) (s : List ℕ) (n v : ℕ) : Type 0 where
  pub rest : List ℕ
  pub small : v < F.limit
  pub stands : drop n s ≡ F.text v ++ rest
  pub next : Starts F.after rest

-- what is read there is what is read of the text alone, further on
pub here_read : {F : Field} {s : List ℕ} {n v : ℕ} (h : Here F s n v) → F.read s n ≡ onward n (F.read (F.text v ++ (h.next.head ∷ h.next.rest)) 0)
here_read {F} {s} {n} {v} h =
    ap (λ (m : ℕ). F.read s m) (sym (add-zero n)) ∙ F.moves s n 0
    ∙ ap (λ (l : List ℕ). onward n (F.read l 0)) (h.stands ∙ ap (λ (l : List ℕ). F.text v ++ l) h.next.is)

agrees_got : (r : Step) (v k : ℕ) → T (agrees true r v k) → r ≡ Ok (v, k)
agrees_got (Ok (w, j)) v k t =
    ap (λ (x : ℕ). Ok (x, j)) (eqb→eq w v (both_left (eqb w v) (eqb j k) t)) ∙ ap (λ (x : ℕ). Ok (v, x)) (eqb→eq j k (both_right (eqb w v) (eqb j k) t))
agrees_got (Err j) v k t = absurd t

agrees_only : (q : Bool) (r : Step) (n v k j : ℕ) → T (agrees q r v k) → onward n r ≡ Ok (v, j) → (q ≡ true) × (j ≡ n + k)
unfolding onward
agrees_only true (Ok (w, i)) n v k j t e =
    let d = (ok_parts e).1 in
    (refl, omega (arith, eqb→eq i k (both_right (eqb w v) (eqb i k) t)))
agrees_only true (Err i) n v k j t e = absurd t
agrees_only false (Ok (w, i)) n v k j t e =
    let d = (ok_parts e).0 in
    absurd (subst (λ (b : Bool). T (neither b)) (eq-eqb w v d) t)
agrees_only false (Err i) n v k j t e = impossible cc

-- a value that survives is read back
pub back : {F : Field} {s : List ℕ} {n v : ℕ} → Here F s n v → F.stays v ≡ true → F.read s n ≡ Ok (v, n + length (F.text v))
back {F} {s} {n} {v} h ok =
    let r = F.read (F.text v ++ (h.next.head ∷ h.next.rest)) 0 in
    let k = length (F.text v) in
    here_read h
    ∙ ap (onward n) (agrees_got r v k (subst (λ (q : Bool). T (agrees q r v k)) ok (F.reads v h.next.head h.next.rest h.small h.next.ok)))
    ∙ onward_got n v k

-- and only such a value is
pub only : {F : Field} {s : List ℕ} {n v j : ℕ} → Here F s n v → F.read s n ≡ Ok (v, j) → (F.stays v ≡ true) × (j ≡ n + length (F.text v))
only {F} {s} {n} {v} {j} h e =
    agrees_only (F.stays v) (F.read (F.text v ++ (h.next.head ∷ h.next.rest)) 0) n v (length (F.text v)) j
    (F.reads v h.next.head h.next.rest h.small h.next.ok) (sym (here_read h) ∙ e)
