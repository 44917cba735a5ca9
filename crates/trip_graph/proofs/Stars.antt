-- A graph with a star for each atom is walked as the graph is, where that is not refused, and the same is said but for the atoms'
-- kinds.
use mathlib.Core.Path.{◌≡◌, refl, sym, ap, ap₂, ◌∙◌, subst}
use mathlib.Core.List.{List, [], ◌∷◌, ◌++◌, map}
use mathlib.Core.Bool.{Bool, true, false}
use Prim.Native.Nat.{ℕ, zero, suc, ◌+◌, ◌*◌, ◌<◌}
use native.Mathlib.Omega.{arith}
use native.Mathlib.Nat.{zero-add}
use lib.ListN.{get_or}
use lib.Dec.{leb, eqb}
use borrow.Author.Tests.{leb-false}
use Rattle.feature.specs.Pick.{pick, both}
use Rattle.feature.specs.Kinds.{invert_of, in_range, turned_or}
use Rattle.feature.specs.declared.atom_kind.AtomKind.{AtomKind}
use Rattle.feature.specs.declared.atom_kind.AtomKind.TheVariants.{Star}
use Rattle.feature.specs.declared.bond_kind.BondKind.{BondKind}
use Rattle.feature.proofs.Cases.{by_test, impossible}
use Rattle.packing.specs.Words as words
use Rattle.table.specs.Records.{degree_in}
use Rattle.walk_entry.specs.declared.entry.Back.{Back}
use Rattle.walk_entry.specs.declared.entry.Back.TheVariants.{Found, Twice, Fixed}
use Rattle.std.specs.Prelude.{Err, None, Ok, Option, Result, Some, is_none, is_some}
use Rattle.walk_entry.specs.declared.WalkError.{WalkError}
use Rattle.join_pool.specs.declared.Pool.{Pool}
use Rattle.walk_entry.specs.Graph.{BondEntry, Graph, graph, kind_at, degree_at, bond_of, bond_in, kind_or, kind_in}
use Rattle.walk_entry.specs.Ties.{leading, last_leading, count_to, place_to, tie_of}
use Rattle.writer.specs.Line.{Event, Root, Extend, Join, Pop}
use Rattle.walk.specs.Walk.{Walk, Turn, quiet, pops_of, pops_then, took_at, left_in, root_turn, leave_of, numbered_of, ring_turn, tied_of, tie_turn, entered_of, enter_turn, bond_turn, entry_turn, atom_of, turn_of, step_of, walk_to, events_of}
use Rattle.walk_laws.proofs.Moves.{turn_moves}
use Rattle.walk_laws.proofs.Sound.{Sound, step_sound, up_within}
use Rattle.walk.proofs.Going.{walk_off, none_is, not_none}
use Rattle.trip_text.proofs.StarredLine.{bare_said}
use Rattle.trip_graph.proofs.Stops.{some_stops}
use Rattle.trip_graph.proofs.Ways.{Passes, way_passes}
use Rattle.trip_graph.proofs.Lists.{by_bool}
use Rattle.walk_entry.specs.Ways.{said_as, is_refused, is_fixed, even, scan_in, scan_of, judged_back, way_of}
use Rattle.trip_graph.specs.Renumber.{Simple, Known}
use Rattle.trip_graph.specs.Marks.{Tetrahedral}
use Rattle.walk.proofs.Place.{atom_at, turn_is}

-- ---- the graph of stars
pub stars_from : List ℕ → ℕ → ℕ → List ℕ
stars_from atoms a zero = []
stars_from atoms a (suc n) = 1 ∷ 0 ∷ degree_in atoms a ∷ stars_from atoms (a + 1) n

abbrev pub starred : Graph → Graph
starred g = graph g.size (stars_from g.atoms 0 g.size) g.bonds g.first

star_words : (atoms : List ℕ) (a n i : ℕ) → i < n
    → (get_or (stars_from atoms a n) (i * 3) 0 ≡ 1) × (get_or (stars_from atoms a n) (i * 3 + 1) 0 ≡ 0) × (get_or (stars_from atoms a n) (i * 3 + 2) 0 ≡ degree_in atoms (a + i))
unfolding stars_from
star_words atoms a zero i h = absurd (omega arith)
star_words atoms a (suc n) zero h = let z : a + 0 ≡ a = omega arith in (refl, refl, ap (degree_in atoms) (sym z))
star_words atoms a (suc n) (suc i) h =
    let r = star_words atoms (a + 1) n i (omega arith) in
    let x : suc i * 3 ≡ suc (suc (suc (i * 3))) = omega arith in
    let y : suc i * 3 + 1 ≡ suc (suc (suc (i * 3 + 1))) = omega arith in
    let z : suc i * 3 + 2 ≡ suc (suc (suc (i * 3 + 2))) = omega arith in
    let w : a + 1 + i ≡ a + suc i = omega arith in
    (ap (λ (j : ℕ). get_or (stars_from atoms a (suc n)) j 0) x ∙ r.0, ap (λ (j : ℕ). get_or (stars_from atoms a (suc n)) j 0) y ∙ r.1, ap (λ (j : ℕ). get_or (stars_from atoms a (suc n)) j 0) z ∙ r.2 ∙ ap (degree_in atoms) w)

pub star_degree : (g : Graph) (a : ℕ) → a < g.size → degree_at (starred g) a ≡ degree_at g a
star_degree g a h = (star_words g.atoms 0 g.size a h).2 ∙ ap (degree_in g.atoms) (zero-add a)

pub star_kind : (g : Graph) (a : ℕ) → a < g.size → kind_at (starred g) a ≡ Star
unfolding kind_in words.load_at kind_or words.load_of words.plain_of in_range
star_kind g a h =
    let r = star_words g.atoms 0 g.size a h in
    ap₂ (λ (x y : ℕ). kind_or (words.load_of x y)) r.0 r.1

pub star_marks : (g : Graph) (a : ℕ) → a < g.size → Tetrahedral (kind_at (starred g) a)
star_marks g a h = rw (star_kind g a h) tt

pub star_simple : (g : Graph) → Simple g → Known g → Simple (starred g)
star_simple g S K =
    record {
      some = S.some;
      apart = λ a i h l. S.apart a i h (rw (star_degree g a h) at l);
      once = λ a i j h li lj. S.once a i j h (rw (star_degree g a h) at li) (rw (star_degree g a h) at lj);
      backed = λ a i h l. let k = S.backed a i h (rw (star_degree g a h) at l) in
          record { place = k.place; within = rw (star_degree g (bond_of g a i).to (K a i h (rw (star_degree g a h) at l))) k.within; leads = k.leads; reversed = k.reversed };
    }

-- ---- what a scan finds where no mark is asked about
scan_free : (bonds first : List ℕ) (t s : ℕ) (fixed : Bool) (n back b : ℕ) → scan_in bonds first t s fixed n back ≡ Found b → scan_in bonds first t s false n back ≡ Found b
unfolding scan_in
scan_free bonds first t s fixed zero back b = λ e. e
scan_free bonds first t s fixed (suc i) back b =
    by_both (eqb (bond_in bonds first t i).to s) (both fixed (even i)) (eqb back 0) (scan_free bonds first t s fixed i (suc i) b) (scan_free bonds first t s fixed i back b)
  where
    by_both : (p q r : Bool) {x x' y y' : Back} → (x ≡ Found b → x' ≡ Found b) → (y ≡ Found b → y' ≡ Found b)
        → pick p (pick q Fixed (pick r x Twice)) y ≡ Found b → pick p (pick false Fixed (pick r x' Twice)) y' ≡ Found b
    by_both true true r f g e = impossible cc
    by_both true false true f g e = f e
    by_both true false false f g e = impossible cc
    by_both false q r f g e = g e

-- a way that enters does so among stars
way_free : (g : Graph) (k : BondKind) (s t b : ℕ) → t < g.size → way_of g k s t ≡ Ok b → way_of (starred g) k s t ≡ Ok b
unfolding way_of judged_back is_fixed is_refused invert_of
way_free g k s t b h e =
    let d : degree_at (starred g) t ≡ degree_at g t = star_degree g t h in
    let f : kind_at (starred g) t ≡ Star = star_kind g t h in
    ap₂ (λ (x : AtomKind) (n : ℕ). judged_back (starred g) k s t (scan_in g.bonds g.first t s (is_fixed x) n 0)) f d ∙ by (scan_of g t s) refl e
  where
    by : (x : Back) → scan_of g t s ≡ x → judged_back g k s t x ≡ Ok b → judged_back (starred g) k s t (scan_in g.bonds g.first t s false (degree_at g t) 0) ≡ Ok b
    by (Found c) q e = ap (judged_back (starred g) k s t) (scan_free g.bonds g.first t s (is_fixed (kind_at g t)) (degree_at g t) 0 c q) ∙ e
    by Twice q e = impossible cc
    by Fixed q e = impossible cc

-- ---- a bond to an atom met before
count_star : (g : Graph) (a b n : ℕ) → leading (starred g) a b n ≡ leading g a b n
unfolding leading
count_star g a b zero = refl
count_star g a b (suc i) = ap (λ (x : ℕ). pick (eqb (bond_of g a i).to b) (x + 1) x) (count_star g a b i)

place_star : (g : Graph) (a b n : ℕ) → last_leading (starred g) a b n ≡ last_leading g a b n
unfolding last_leading
place_star g a b zero = refl
place_star g a b (suc i) = ap (λ (x : ℕ). pick (eqb (bond_of g a i).to b) (suc i) x) (place_star g a b i)

tie_star : (g : Graph) (k : BondKind) (s t : ℕ) → s < g.size → t < g.size → tie_of (starred g) k s t ≡ tie_of g k s t
unfolding tie_of
tie_star g k s t hs ht =
    let a : count_to (starred g) t s ≡ count_to g t s = count_star g t s _ ∙ ap (leading g t s) (star_degree g t ht) in
    let b : count_to (starred g) s t ≡ count_to g s t = count_star g s t _ ∙ ap (leading g s t) (star_degree g s hs) in
    let c : place_to (starred g) t s ≡ place_to g t s = place_star g t s _ ∙ ap (last_leading g t s) (star_degree g t ht) in
    rw (a, b, c)

-- ---- a turn
-- what y says is what x says, with stars, and it leaves the same
record Bared (x y : Turn) : Type 0 where
  after : y.after ≡ x.after
  said : y.said ≡ map bare_said x.said

quiet_bared : (w : Walk) → Bared (quiet w) (quiet w)
quiet_bared w = record { after = refl; said = refl }

pops_bared : (n : ℕ) (e : Event) → pops_then n (bare_said e) ≡ map bare_said (pops_then n e)
unfolding pops_of bare_said
pops_bared n e = by (eqb n 0)
  where
    by : (q : Bool) → pick q [] (Pop n ∷ []) ++ (bare_said e ∷ []) ≡ map bare_said (pick q [] (Pop n ∷ []) ++ (e ∷ []))
    by true = refl
    by false = refl

-- so it is, if x is not refused
abbrev Agrees : Turn → Turn → Type 0
Agrees x y = x.after.at.refusal ≡ None → Bared x y

both_agree : (b : Bool) (x y x' y' : Turn) → (b ≡ true → Agrees x x') → (b ≡ false → Agrees y y') → Agrees (pick b x y) (pick b x' y')
both_agree true x y x' y' f g = f refl
both_agree false x y x' y' f g = g refl

said_as_lem : (b : ℕ) → said_as Star b ≡ Star
unfolding said_as invert_of turned_or
said_as_lem b = by (even b)
  where
    by : (q : Bool) → pick q Star Star ≡ Star
    by true = refl
    by false = refl

pops_extend : (n : ℕ) (b : BondKind) (k : AtomKind) → pops_then n (Extend b Star) ≡ map bare_said (pops_then n (Extend b k))
unfolding bare_said
pops_extend n b k = pops_bared n (Extend b k)

module _ (g : Graph) (w : Walk) (dep : ℕ) (snd : Sound g w dep) where
  root_agrees : Agrees (root_turn g w) (root_turn (starred g) w)
  unfolding root_turn said_as bare_said even kind_in
  root_agrees =
      both_agree (leb g.size w.at.next) _ _ _ _ (λ q e. quiet_bared w)
      (λ q. both_agree (eqb (get_or w.met w.at.next 0) 0) _ _ _ _
      (λ z e. record { after = refl; said = ap (λ (k : AtomKind). Root k ∷ []) (star_kind g w.at.next (leb-false _ _ q)) })
      (λ z e. quiet_bared _))

  module _ (r : is_some w.at.here ≡ true) (more : get_or w.taken (atom_at w) 0 < degree_at g (atom_at w)) where
    abbrev s0 : ℕ
    s0 = atom_at w

    abbrev i0 : ℕ
    i0 = get_or w.taken s0 0

    abbrev e0 : BondEntry
    e0 = bond_of g s0 i0

    abbrev w1 : Walk
    w1 = took_at w s0 i0

    hs : s0 < g.size
    hs = up_within (snd.stands r)

    given_agrees : (x : Option (Pool × ℕ)) (pairs : List ℕ) → Agrees (numbered_of w1 e0.kind s0 e0.to x pairs) (numbered_of w1 e0.kind s0 e0.to x pairs)
    unfolding numbered_of bare_said
    given_agrees None pairs e = record { after = refl; said = refl }
    given_agrees (Some (p, n)) pairs e = record { after = refl; said = pops_bared w1.at.pend (Join e0.kind n) }

    tied_agrees : (x : Result ℕ WalkError) → Agrees (tied_of w1 e0.kind s0 e0.to x) (tied_of w1 e0.kind s0 e0.to x)
    unfolding tied_of ring_turn
    tied_agrees (Err why) = λ e. record { after = refl; said = refl }
    tied_agrees (Ok b) = given_agrees _ _

    tie_agrees : e0.to < g.size → Agrees (tie_turn g w1 e0.kind s0 e0.to) (tie_turn (starred g) w1 e0.kind s0 e0.to)
    unfolding tie_turn
    tie_agrees ht =
        subst (λ (x : Result ℕ WalkError). Agrees (tied_of w1 e0.kind s0 e0.to (tie_of g e0.kind s0 e0.to)) (tied_of w1 e0.kind s0 e0.to x)) (sym (tie_star g e0.kind s0 e0.to hs ht))
        (tied_agrees (tie_of g e0.kind s0 e0.to))

    entered_agrees : e0.to < g.size → (x : Result ℕ WalkError) → way_of g e0.kind s0 e0.to ≡ x → Passes g e0.kind s0 e0.to x
        → Agrees (entered_of g w1 e0.kind e0.to x) (entered_of (starred g) w1 e0.kind e0.to (way_of (starred g) e0.kind s0 e0.to))
    unfolding entered_of Passes
    entered_agrees ht (Err why) q h e = absurd (some_stops why e)
    entered_agrees ht (Ok b) q h e =
        subst (λ (x : Result ℕ WalkError). Bared (entered_of g w1 e0.kind e0.to (Ok b)) (entered_of (starred g) w1 e0.kind e0.to x)) (sym (way_free g e0.kind s0 e0.to b ht q))
        (record { after = refl; said = said_star b })
      where
        said_star : (b : ℕ) → pops_then w1.at.pend (Extend e0.kind (said_as (kind_at (starred g) e0.to) b)) ≡ map bare_said (pops_then w1.at.pend (Extend e0.kind (said_as (kind_at g e0.to) b)))
        said_star b =
            ap (λ (k : AtomKind). pops_then w1.at.pend (Extend e0.kind (said_as k b))) (star_kind g e0.to ht)
            ∙ ap (λ (k : AtomKind). pops_then w1.at.pend (Extend e0.kind k)) (said_as_lem b) ∙ pops_extend w1.at.pend e0.kind (said_as (kind_at g e0.to) b)

    bond_agrees : Agrees (bond_turn g w1 s0 e0) (bond_turn (starred g) w1 s0 e0)
    unfolding bond_turn enter_turn
    bond_agrees =
        both_agree (leb g.size e0.to) _ _ _ _ (λ q e. record { after = refl; said = refl })
        (λ q. both_agree (eqb e0.to s0) _ _ _ _ (λ z e. record { after = refl; said = refl })
        (λ z. both_agree (eqb (get_or w1.met e0.to 0) 0) _ _ _ _
        (λ y. entered_agrees (leb-false _ _ q) (way_of g e0.kind s0 e0.to) refl (way_passes g e0.kind s0 e0.to))
        (λ y. tie_agrees (leb-false _ _ q))))

    entry_agrees : Agrees (entry_turn g w s0 i0) (entry_turn (starred g) w s0 i0)
    unfolding entry_turn
    entry_agrees = both_agree (eqb (get_or w.back s0 0) (i0 + 1)) _ _ _ _ (λ q e. quiet_bared _) (λ q. bond_agrees)

  atom_agrees : is_some w.at.here ≡ true → Agrees (atom_of g w (atom_at w)) (atom_of (starred g) w (atom_at w))
  unfolding atom_of left_in
  atom_agrees r =
      subst (λ (n : ℕ). Agrees (atom_of g w (atom_at w)) (pick (leb n (get_or w.taken (atom_at w) 0)) (leave_of (starred g) w (atom_at w)) (entry_turn (starred g) w (atom_at w) (get_or w.taken (atom_at w) 0))))
      (sym (star_degree g (atom_at w) (up_within (snd.stands r))))
      (both_agree (leb (degree_at g (atom_at w)) (get_or w.taken (atom_at w) 0)) _ _ _ _ (λ q e. record { after = refl; said = refl }) (λ q. entry_agrees r (leb-false _ _ q)))

  turn_agrees : Agrees (turn_of g w) (turn_of (starred g) w)
  turn_agrees = rw (turn_is g w, turn_is (starred g) w) (both_agree (is_some w.at.here) _ _ _ _ atom_agrees (λ q. root_agrees))

-- ---- turns
-- walked without refusal, stars are walked to the same end, and the same is said
pub record StarWalk (g : Graph) (t : ℕ) (w : Walk) : Type 0 where
  pub walked : walk_to (starred g) t w ≡ walk_to g t w
  pub said : events_of (starred g) t w ≡ map bare_said (events_of g t w)

map_two : (x y : List Event) → map bare_said (x ++ y) ≡ map bare_said x ++ map bare_said y
map_two [] y = refl
map_two (e ∷ x) y = ap (λ (l : List Event). bare_said e ∷ l) (map_two x y)

step_agrees : (g : Graph) (w : Walk) (dep : ℕ) → Sound g w dep → Agrees (step_of g w) (step_of (starred g) w)
unfolding step_of
step_agrees g w dep s = both_agree (is_none w.at.refusal) _ _ _ _ (λ q. turn_agrees g w dep s) (λ q e. quiet_bared w)

step_sounds : (g : Graph) (w : Walk) (dep : ℕ) → Sound g w dep → (m : ℕ) × Sound g (step_of g w).after m
unfolding step_of
step_sounds g w dep s =
    by_test (λ (x : Turn). (m : ℕ) × Sound g x.after m) (is_none w.at.refusal)
    (λ q. let m = turn_moves g w dep in (m.0, step_sound s m.1)) (λ q. (dep, s))

still_fine : (g : Graph) (t : ℕ) (v : Walk) → (walk_to g t v).at.refusal ≡ None → v.at.refusal ≡ None
still_fine g t v e =
    by_bool (is_none v.at.refusal) (λ q. none_is _ q)
    (λ q. sym (ap (λ (x : Walk). x.at.refusal) (walk_off g t v (not_none _ q))) ∙ e)

pub star_walk : (g : Graph) (t : ℕ) (w : Walk) (dep : ℕ) → Sound g w dep → (walk_to g t w).at.refusal ≡ None → StarWalk g t w
unfolding walk_to events_of
star_walk g zero w dep s e = record { walked = refl; said = refl }
star_walk g (suc t) w dep s e =
    let B = step_agrees g w dep s (still_fine g t (step_of g w).after e) in
    let n = step_sounds g w dep s in
    let R = star_walk g t (step_of g w).after n.0 n.1 e in
    record {
      walked = ap (walk_to (starred g) t) B.after ∙ R.walked;
      said = ap₂ (λ (x y : List Event). x ++ y) B.said (ap (events_of (starred g) t) B.after ∙ R.said) ∙ sym (map_two (step_of g w).said (events_of g t (step_of g w).after));
    }
