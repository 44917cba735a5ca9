-- What holds of a walk at every turn: the marks and the count agree, every root tried was met, and the entries back lead from
-- the current atom up to its root. Assumes nothing.
use Prim.Native.Nat.{ℕ, suc, ◌+◌, ◌-◌, ◌≤◌, ◌<◌}
use mathlib.Core.Path.{◌≡◌, refl, sym, ap, ◌∙◌, subst}
use mathlib.Core.Logic.{◌≢◌}
use mathlib.Core.List.{List}
use mathlib.Core.Bool.{true, false, false≢true}
use native.Mathlib.Omega.{arith}
use lib.ListN.{length, get_or, set, length-set, length-replicate}
use lib.Seq.{get_or-set_same, get_or-set_other}
use Rattle.feature.proofs.Cases.{by_eq}
use Rattle.walk_entry.specs.Graph.{Graph, bond_in}
use Rattle.walk.specs.Walk.{Walk, Turn}
use Rattle.walk_laws.specs.Trek.{Room, fresh}
use Rattle.walk_laws.proofs.Moves.{Move, still, skip, root, ends, leaves, takes, refuses, joins, enters, parent_of}
use Rattle.walk_laws.proofs.Sums.{unmet, unmet_set, unmet_all}
use Rattle.std.specs.Prelude.{is_some}
use Rattle.walk.proofs.Place.{atom_at}

-- the entries back lead from an atom up to its root, over so many atoms, all of them met
pub data Up (g : Graph) (met back : List ℕ) : ℕ → ℕ → Type 0 where
  top : (a : ℕ) → a < g.size → get_or met a 0 ≢ 0 → get_or back a 0 ≡ 0 → Up g met back a 1
  above : (a d : ℕ) → a < g.size → get_or met a 0 ≢ 0 → get_or back a 0 ≢ 0 → Up g met back (parent_of g back a) d → Up g met back a (suc d)

pub up_within : {g : Graph} {met back : List ℕ} {a d : ℕ} → Up g met back a d → a < g.size
up_within (top a l m b) = l
up_within (above a d l m b u) = l

pub up_some : {g : Graph} {met back : List ℕ} {a d : ℕ} → Up g met back a d → 0 < d
up_some (top a l m b) = omega arith
up_some (above a d l m b u) = omega arith

up_met : {g : Graph} {met back : List ℕ} {a d : ℕ} → Up g met back a d → get_or met a 0 ≢ 0
up_met (top a l m b) = m
up_met (above a d l m b u) = m

-- one atom up
up_parent : {g : Graph} {met back : List ℕ} {a d : ℕ} → Up g met back a d → get_or back a 0 ≢ 0 → Up g met back (parent_of g back a) (d - 1)
up_parent (top a l m b) ne = absurd (ne b)
up_parent {g} {met} {back} (above a d l m b u) ne =
    let e : suc d - 1 ≡ d = omega arith in
    rw e u

-- a new atom changes nothing for those met before
up_kept : {g : Graph} {met back : List ℕ} {a d : ℕ} (t v b : ℕ) → get_or met t 0 ≡ 0 → Up g met back a d → Up g (set met t v) (set back t b) a d
up_kept {g} {met} {back} t v b z (top a l m h) =
    let ne : a ≢ t = λ e. m (ap (λ (i : ℕ). get_or met i 0) e ∙ z) in
    top a l (rw (get_or-set_other met t a v 0 ne) m) (rw (get_or-set_other back t a b 0 ne) h)
up_kept {g} {met} {back} t v b z (above a d l m h u) =
    let ne : a ≢ t = λ e. m (ap (λ (i : ℕ). get_or met i 0) e ∙ z) in
    let f : get_or (set back t b) a 0 ≡ get_or back a 0 = get_or-set_other back t a b 0 ne in
    above a d l (rw (get_or-set_other met t a v 0 ne) m) (rw f h)
    (subst (λ (i : ℕ). Up g (set met t v) (set back t b) (bond_in g.bonds g.first a (i - 1)).to d) (sym f) (up_kept t v b z u))

-- d atoms are on the way up
pub record Sound (g : Graph) (w : Walk) (d : ℕ) : Type 0 where
  pub room : Room g (length w.met) (length w.back) (length w.taken)
  pub next : w.at.next ≤ g.size
  pub counted : w.at.count + unmet g.size w.met ≡ g.size
  pub tried : (a : ℕ) → a < w.at.next → get_or w.met a 0 ≢ 0
  pub stands : is_some w.at.here ≡ true → Up g w.met w.back (atom_at w) d
  pub rests : is_some w.at.here ≡ false → (d ≡ 0) × (w.at.pend ≡ 0)

pub sound_start : (g : Graph) (lm lw lb lt : ℕ) (pairs : List ℕ) → Room g lm lb lt → Sound g (fresh lm lw lb lt pairs) 0
sound_start g lm lw lb lt pairs r =
    record {
      room = record { met = rw length-replicate r.met; back = rw length-replicate r.back; taken = rw length-replicate r.taken };
      next = omega arith;
      counted = omega (arith, unmet_all g.size lm);
      tried = λ a l. absurd (omega arith);
      stands = λ e. absurd (false≢true e);
      rests = λ e. (refl, refl);
    }

module _ {g : Graph} {w : Walk} {d : ℕ} (s : Sound g w d) where
  -- an atom not met before is met: the count and the marks agree again
  pub met_counted : (t v : ℕ) → t < g.size → get_or w.met t 0 ≡ 0 → v ≢ 0 → w.at.count + 1 + unmet g.size (set w.met t v) ≡ g.size
  met_counted t v l z nz = omega (arith, s.counted, unmet_set g.size w.met t v l s.room.met z nz)

  met_kept : (t v a : ℕ) → v ≢ 0 → t < g.size → get_or w.met a 0 ≢ 0 → get_or (set w.met t v) a 0 ≢ 0
  met_kept t v a nz l m =
      by_eq a t
      (λ e. rw (e, get_or-set_same w.met t v 0 (omega (arith, s.room.met))) nz)
      (λ ne. rw (get_or-set_other w.met t a v 0 ne) m)

  met_room : (t v b : ℕ) → Room g (length (set w.met t v)) (length (set w.back t b)) (length w.taken)
  met_room t v b = record { met = rw length-set s.room.met; back = rw length-set s.room.back; taken = s.room.taken }

  took_room : (t v : ℕ) → Room g (length w.met) (length w.back) (length (set w.taken t v))
  took_room t v = record { met = s.room.met; back = s.room.back; taken = rw length-set s.room.taken }

  pub step_sound : {x : Turn} {n : ℕ} → Move g w d x n → Sound g x.after n
  step_sound (still r h) = s
  step_sound (skip r h m) =
      record {
        room = s.room;
        next = omega arith;
        counted = s.counted;
        tried = λ a l. by_eq a w.at.next (λ e. rw e m) (λ ne. s.tried a (omega arith));
        stands = λ e. absurd (false≢true (sym r ∙ e));
        rests = λ e. s.rests r;
      }
  step_sound (root r h m k) =
      let nz : w.at.count + 1 ≢ 0 = omega arith in
      let here : get_or (set w.met w.at.next (w.at.count + 1)) w.at.next 0 ≡ w.at.count + 1 =
      get_or-set_same w.met w.at.next (w.at.count + 1) 0 (omega (arith, s.room.met)) in
      record {
        room = met_room w.at.next (w.at.count + 1) 0;
        next = omega arith;
        counted = met_counted w.at.next (w.at.count + 1) h m nz;
        tried = λ a l. by_eq a w.at.next (λ e. rw (e, here) nz) (λ ne. met_kept w.at.next (w.at.count + 1) a nz h (s.tried a (omega arith)));
        stands = λ e. top w.at.next h (rw here nz) (get_or-set_same w.back w.at.next 0 0 (omega (arith, s.room.back)));
        rests = λ e. absurd (false≢true (sym e));
      }
  step_sound (ends r h) =
      record {
        room = s.room;
        next = s.next;
        counted = s.counted;
        tried = s.tried;
        stands = λ e. absurd (false≢true e);
        rests = λ e. (refl, refl);
      }
  step_sound (leaves r h) =
      record {
        room = s.room;
        next = s.next;
        counted = s.counted;
        tried = s.tried;
        stands = λ e. up_parent (s.stands r) h;
        rests = λ e. absurd (false≢true (sym e));
      }
  step_sound (takes r h) =
      record {
        room = took_room _ _;
        next = s.next;
        counted = s.counted;
        tried = s.tried;
        stands = s.stands;
        rests = s.rests;
      }
  step_sound (refuses r h pairs why) =
      record {
        room = took_room _ _;
        next = s.next;
        counted = s.counted;
        tried = s.tried;
        stands = s.stands;
        rests = s.rests;
      }
  step_sound (joins r h pairs p k n) =
      record {
        room = took_room _ _;
        next = s.next;
        counted = s.counted;
        tried = s.tried;
        stands = s.stands;
        rests = λ e. ((s.rests e).0, refl);
      }
  step_sound (enters r h t b l m nb to e k) =
      let nz : w.at.count + 1 ≢ 0 = omega arith in
      let here : get_or (set w.met t (w.at.count + 1)) t 0 ≡ w.at.count + 1 =
      get_or-set_same w.met t (w.at.count + 1) 0 (omega (arith, s.room.met)) in
      let back : get_or (set w.back t b) t 0 ≡ b = get_or-set_same w.back t b 0 (omega (arith, s.room.back)) in
      let up : Up g (set w.met t (w.at.count + 1)) (set w.back t b) (atom_at w) d = up_kept t (w.at.count + 1) b m (s.stands r) in
      record {
        room = record { met = (met_room t (w.at.count + 1) b).met; back = (met_room t (w.at.count + 1) b).back; taken = (took_room _ _).taken };
        next = s.next;
        counted = met_counted t (w.at.count + 1) l m nz;
        tried = λ a i. met_kept t (w.at.count + 1) a nz l (s.tried a i);
        stands = λ z. above t d l (rw here nz) (rw back nb) (subst (λ (i : ℕ). Up g (set w.met t (w.at.count + 1)) (set w.back t b) (bond_in g.bonds g.first t (i - 1)).to d) (sym back) (subst (λ (i : ℕ). Up g (set w.met t (w.at.count + 1)) (set w.back t b) i d) (sym to) up));
        rests = λ z. absurd (false≢true (sym z));
      }
