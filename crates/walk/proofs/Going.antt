-- A walk under way: what is left of it comes to the whole of it, and no count wraps. Assumes nothing.
use Prim.Native.Nat.{ℕ, zero, suc, ◌+◌, ◌-◌, ◌*◌, ◌≤◌, ◌<◌}
use mathlib.Core.Path.{◌≡◌, refl, ◌∙◌, ap, sym, subst}
use mathlib.Core.Logic.{◌≢◌}
use mathlib.Core.List.{List, [], ◌++◌}
use native.Mathlib.Omega.{arith}
use mathlib.Core.Bool.{Bool, true, false}
use Rattle.std.specs.Prelude.{is_none, is_some, Option, Some, None}
use Rattle.feature.proofs.Cases.{impossible}
use Rattle.writer.specs.Line.{Event}
use Rattle.writer.specs.Tables.{Spoken, spoken, writer, say_all}
use Rattle.walk_entry.specs.Graph.{Graph}
use Rattle.walk.specs.declared.walker.Walker.{Walker}
use Rattle.join_pool.specs.declared.Pool.{Pool}
use Rattle.walk.specs.Walk.{Walk, walk, fresh_walker, Turn, turn_of, step_of, walk_to, events_of, turns_of, quiet}
use Rattle.walk.specs.Steps.{Did, TurnNear, TurnGrows}
use Rattle.walk.proofs.Moves.{say_append}

-- all of a walk is t turns from w₀ on, told to s₀; n of them are left from w on, told to s
pub record Going (g : Graph) (t : ℕ) (w₀ : Walk) (s₀ : Spoken) (n : ℕ) (w : Walk) (s : Spoken) : Type 0 where
  pub walks : walk_to g n w ≡ walk_to g t w₀
  pub says : say_all s (events_of g n w) ≡ say_all s₀ (events_of g t w₀)
  pub sound : w.at.refusal ≡ None
  pub next : w.at.next + n ≤ t
  pub pend : w.at.pend + n ≤ t
  pub count : w.at.count + n ≤ t
  pub pieces : s.at.pieces + 2 * n ≤ 2 * t
  pub len : s.at.len + 50 * n ≤ 50 * t

-- ---- whether it was refused
pub none_is : {A : Type 0} (x : Option A) → is_none x ≡ true → x ≡ None
none_is None e = refl
none_is (Some a) e = absurd (let y : false ≡ true = e in impossible cc)

pub some_is : {A : Type 0} (x : Option A) → x ≢ None → is_none x ≡ false
some_is None h = absurd (h refl)
some_is (Some a) h = refl

pub not_none : {A : Type 0} (x : Option A) → is_none x ≡ false → x ≢ None
not_none None e f = let y : true ≡ false = e in impossible cc
not_none (Some a) e f = let y : Some a ≡ None = f in impossible cc

pub none_at : {A : Type 0} (x : Option A) (b : Bool) → b ≡ is_some x → b ≡ false → x ≡ None
none_at None b e f = refl
none_at (Some a) b e f = absurd (let y : true ≡ false = sym e ∙ f in impossible cc)

pub some_at : {A : Type 0} (x : Option A) (b : Bool) → b ≡ is_some x → b ≡ true → x ≢ None
some_at None b e f h = let y : false ≡ true = sym e ∙ f in impossible cc
some_at (Some a) b e f h = let y : Some a ≡ None = h in impossible cc

-- ---- one step of a walk that was not refused, and of one that was
pub step_on : (g : Graph) (w : Walk) → w.at.refusal ≡ None → step_of g w ≡ turn_of g w
unfolding step_of
step_on g w e = rw e refl

step_off : (g : Graph) (w : Walk) → w.at.refusal ≢ None → step_of g w ≡ quiet w
unfolding step_of
step_off g w e = simp (some_is w.at.refusal e)

-- which stays as it is and says nothing
pub walk_off : (g : Graph) (n : ℕ) (w : Walk) → w.at.refusal ≢ None → walk_to g n w ≡ w
unfolding walk_to
walk_off g zero w e = refl
walk_off g (suc n) w e = ap (λ (x : Turn). walk_to g n x.after) (step_off g w e) ∙ walk_off g n w e

pub say_off : (g : Graph) (n : ℕ) (w : Walk) → w.at.refusal ≢ None → events_of g n w ≡ []
unfolding events_of
say_off g zero w e = refl
say_off g (suc n) w e = ap (λ (x : Turn). x.said ++ events_of g n x.after) (step_off g w e) ∙ say_off g n w e

-- ---- a turn more
module _ (g : Graph) (w v : Walk) (s r : Spoken) (sound : w.at.refusal ≡ None) (did : Did (turn_of g w) v s r) where
  walk_next : (n : ℕ) → walk_to g (suc n) w ≡ walk_to g n v
  unfolding walk_to
  walk_next n =
      ap (λ (t : Turn). walk_to g n t.after) (step_on g w sound) ∙ ap (λ (x : Walk). walk_to g n x) (sym did.after)

  say_next : (n : ℕ) → say_all s (events_of g (suc n) w) ≡ say_all r (events_of g n v)
  unfolding events_of
  say_next n =
      ap (λ (t : Turn). say_all s (t.said ++ events_of g n t.after)) (step_on g w sound)
      ∙ say_append s (turn_of g w).said (events_of g n (turn_of g w).after)
      ∙ ap (λ (x : Spoken). say_all x (events_of g n (turn_of g w).after)) (sym did.said)
      ∙ ap (λ (x : Walk). say_all r (events_of g n x)) (sym did.after)

  walk_less : (n : ℕ) → 0 < n → walk_to g n w ≡ walk_to g (n - 1) v
  walk_less zero h = absurd (omega arith)
  walk_less (suc n) h =
      let e : n ≡ suc n - 1 = omega arith in
      walk_next n ∙ ap (λ (k : ℕ). walk_to g k v) e

  say_less : (n : ℕ) → 0 < n → say_all s (events_of g n w) ≡ say_all r (events_of g (n - 1) v)
  say_less zero h = absurd (omega arith)
  say_less (suc n) h =
      let e : n ≡ suc n - 1 = omega arith in
      say_next n ∙ ap (λ (k : ℕ). say_all r (events_of g k v)) e

-- ---- the loop
pub going_start : (g : Graph) (t n : ℕ) (p : Pool) (z : Walker) (met walked back taken pairs out starts : List ℕ) → n ≡ t → z ≡ fresh_walker p → Going g t (walk z met walked back taken pairs) (spoken (writer 0 0) out starts) n (walk z met walked back taken pairs) (spoken (writer 0 0) out starts)
going_start g t n p z met walked back taken pairs out starts e f =
    subst
    (λ (x : Walker). Going g t (walk x met walked back taken pairs) (spoken (writer 0 0) out starts) n (walk x met walked back taken pairs) (spoken (writer 0 0) out starts))
    (sym f)
    (record {
      walks = ap (λ (k : ℕ). walk_to g k (walk (fresh_walker p) met walked back taken pairs)) e;
      says = ap (λ (k : ℕ). say_all (spoken (writer 0 0) out starts) (events_of g k (walk (fresh_walker p) met walked back taken pairs))) e;
      sound = refl;
      next = omega (arith, e);
      pend = omega (arith, e);
      count = omega (arith, e);
      pieces = omega (arith, e);
      len = omega (arith, e);
    })

-- what a walk from z comes to, where z is the start with the pool p
pub from_start : (g : Graph) (t : ℕ) (p : Pool) (z : Walker) (met walked back taken pairs : List ℕ) (s : Spoken) (v : Walk) (r : Spoken) → z ≡ fresh_walker p
    → (v ≡ walk_to g t (walk z met walked back taken pairs)) × (r ≡ say_all s (events_of g t (walk z met walked back taken pairs)))
    → (v ≡ walk_to g t (walk (fresh_walker p) met walked back taken pairs)) × (r ≡ say_all s (events_of g t (walk (fresh_walker p) met walked back taken pairs)))
from_start g t p z met walked back taken pairs s v r f =
    subst (λ (x : Walker). (v ≡ walk_to g t (walk x met walked back taken pairs)) × (r ≡ say_all s (events_of g t (walk x met walked back taken pairs)))) f

pub going_near : {g : Graph} {t : ℕ} {w₀ : Walk} {s₀ : Spoken} {n : ℕ} {w : Walk} {s : Spoken} → t < 1000000 → Going g t w₀ s₀ n w s → TurnNear w.at s.at
going_near h i =
    record {
      next = omega (arith, h, i.next);
      pend = omega (arith, h, i.pend);
      count = omega (arith, h, i.count);
      pieces = omega (arith, h, i.pieces);
      len = omega (arith, h, i.len);
    }

going_less : {g : Graph} {t : ℕ} {w₀ : Walk} {s₀ : Spoken} (n : ℕ) {w v : Walk} {s r : Spoken} → Going g t w₀ s₀ n w s → 0 < n → Did (turn_of g w) v s r → TurnGrows w.at v.at s.at r.at → v.at.refusal ≡ None → Going g t w₀ s₀ (n - 1) v r
going_less {g} {t} {w₀} {s₀} n {w} {v} {s} {r} i h d o e =
    record {
      walks = sym (walk_less g w v s r i.sound d n h) ∙ i.walks;
      says = sym (say_less g w v s r i.sound d n h) ∙ i.says;
      sound = e;
      next = omega (arith, h, i.next, o.onward.next);
      pend = omega (arith, h, i.pend, o.onward.pend);
      count = omega (arith, h, i.count, o.onward.count);
      pieces = omega (arith, h, i.pieces, o.pieces);
      len = omega (arith, h, i.len, o.len);
    }

-- a turn more of those from i on
pub going_on : {g : Graph} {t : ℕ} {w₀ : Walk} {s₀ : Spoken} (n i : ℕ) {w v : Walk} {s r : Spoken} → Going g t w₀ s₀ (n - i) w s → i < n → Did (turn_of g w) v s r → TurnGrows w.at v.at s.at r.at → v.at.refusal ≡ None → Going g t w₀ s₀ (n - (i + 1)) v r
going_on {g} {t} {w₀} {s₀} n i {w} {v} {s} {r} z h d o e =
    let m : n - (i + 1) ≡ n - i - 1 = omega arith in
    subst (λ (k : ℕ). Going g t w₀ s₀ k v r) (sym m) (going_less (n - i) z (omega arith) d o e)

pub going_off : {g : Graph} {t : ℕ} {w₀ : Walk} {s₀ : Spoken} (n : ℕ) {w v : Walk} {s r : Spoken} → Going g t w₀ s₀ n w s → 0 < n → Did (turn_of g w) v s r → v.at.refusal ≢ None → (v ≡ walk_to g t w₀) × (r ≡ say_all s₀ (events_of g t w₀))
unfolding say_all
going_off {g} {t} {w₀} {s₀} n {w} {v} {s} {r} i h d e = (
  sym (walk_off g (n - 1) v e) ∙ sym (walk_less g w v s r i.sound d n h) ∙ i.walks,
  ap (λ (es : List Event). say_all r es) (sym (say_off g (n - 1) v e)) ∙ sym (say_less g w v s r i.sound d n h) ∙ i.says,
)

pub going_end : {g : Graph} {t : ℕ} {w₀ : Walk} {s₀ : Spoken} (n : ℕ) {w : Walk} {s : Spoken} → Going g t w₀ s₀ n w s → n ≡ 0 → (w ≡ walk_to g t w₀) × (s ≡ say_all s₀ (events_of g t w₀))
unfolding say_all walk_to events_of
going_end {g} {t} {w₀} {s₀} n {w} {s} i e =
    (ap (λ (k : ℕ). walk_to g k w) (sym e) ∙ i.walks, ap (λ (k : ℕ). say_all s (events_of g k w)) (sym e) ∙ i.says)

pub turns_are : (size entries n : ℕ) → n ≡ 2 * size + entries → n ≡ turns_of size entries
unfolding turns_of
turns_are size entries n e = e

pub few_turns : (size entries : ℕ) → turns_of size entries < 1000000 → 2 * size + entries < 1000000
unfolding turns_of
few_turns size entries h = h
