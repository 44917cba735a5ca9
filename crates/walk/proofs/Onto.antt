-- The ways through a turn that meet an atom, or pass a bond on to what is done with it. Assumes nothing.
use Prim.Native.Nat.{ℕ, ◌+◌, ◌≤◌, ◌<◌}
use mathlib.Core.Path.{◌≡◌, refl, ◌∙◌, ap, sym}
use mathlib.Core.Logic.{◌≢◌}
use mathlib.Core.List.{List}
use lib.ListN.{get_or, set}
use borrow.Author.Tests.{le-leb, lt-leb, eq-eqb, ne_eqb}
use Rattle.feature.specs.declared.atom_kind.AtomKind.{AtomKind}
use Rattle.feature.specs.declared.bond_kind.BondKind.{BondKind}
use Rattle.walk_entry.specs.declared.WalkError.TheVariants.{UnknownTarget, Loop}
use Rattle.writer.specs.Line.{Root, Extend}
use Rattle.writer.specs.Tables.{Spoken, say_t, say_all}
use Rattle.std.specs.Prelude.{Err, Ok, Result, None, Some}
use Rattle.walk_entry.specs.declared.WalkError.{WalkError}
use Rattle.walk_entry.specs.Graph.{BondEntry, Graph, kind_at, degree_at, bond_of}
use Rattle.walk_entry.specs.Ways.{said_as, way_of}
use Rattle.walk_entry.specs.Ties.{tie_of}
use Rattle.walk.specs.declared.walker.Walker.{Walker}
use Rattle.walk.specs.Walk.{Walk, walk, refused_as, root_passed, met_at, took_at, pops_of, left_in, root_turn, ring_turn, tied_of, tie_turn, entered_of, enter_turn, bond_turn, entry_turn, atom_of, turn_at, turn_of}
use Rattle.walk.specs.Steps.{Did}
use Rattle.walk.proofs.Moves.{did_as, did_quiet, say_one, say_then}

-- ---- a bond to a new atom
module _ (g : Graph) (z r : Walker) (met walked back taken pairs : List ℕ) (k : BondKind) (s t : ℕ) (v : Result ℕ WalkError) (way : v ≡ way_of g k s t) where
  enter_as : (x : Result ℕ WalkError) → v ≡ x → enter_turn g (walk z met walked back taken pairs) k s t ≡ entered_of g (walk z met walked back taken pairs) k t x
  unfolding enter_turn
  enter_as x e = ap (λ (y : Result ℕ WalkError). entered_of g (walk z met walked back taken pairs) k t y) (sym way ∙ e)

  pub enter_refused : (line : Spoken) (why : WalkError) → v ≡ Err why → r ≡ refused_as z why → Did (enter_turn g (walk z met walked back taken pairs) k s t) (walk r met walked back taken pairs) line line
  unfolding entered_of
  enter_refused line why e f =
      did_as (enter_as (Err why) e)
      (did_quiet (walk (refused_as z why) met walked back taken pairs) _ line (ap (λ (x : Walker). walk x met walked back taken pairs) f))

  pub enter_new : (v' : Walk) (line popped said : Spoken) (b : ℕ) (kind as_said : AtomKind) → v ≡ Ok b → popped ≡ say_all line (pops_of z.pend) → kind ≡ kind_at g t → as_said ≡ said_as kind b → said ≡ say_t popped (Extend k as_said) → v' ≡ met_at (walk z met walked back taken pairs) z t b → Did (enter_turn g (walk z met walked back taken pairs) k s t) v' line said
  unfolding entered_of
  enter_new v' line popped said b kind as_said e f d q i m =
      did_as (enter_as (Ok b) e)
      (record {
        after = m;
        said = say_then line popped said z.pend (Extend k (said_as (kind_at g t) b)) f (i ∙ ap (λ (x : AtomKind). say_t popped (Extend k x)) (q ∙ ap (λ (x : AtomKind). said_as x b) d));
      })

-- ---- a bond to an atom met before
module _ (g : Graph) (z : Walker) (met walked back taken pairs : List ℕ) (k : BondKind) (s t : ℕ) (v : Result ℕ WalkError) (way : v ≡ tie_of g k s t) where
  tie_as : (x : Result ℕ WalkError) → v ≡ x → tie_turn g (walk z met walked back taken pairs) k s t ≡ tied_of (walk z met walked back taken pairs) k s t x
  unfolding tie_turn
  tie_as x e = ap (λ (y : Result ℕ WalkError). tied_of (walk z met walked back taken pairs) k s t y) (sym way ∙ e)

  pub tie_refused : (line : Spoken) (r : Walker) (why : WalkError) → v ≡ Err why → r ≡ refused_as z why → Did (tie_turn g (walk z met walked back taken pairs) k s t) (walk r met walked back taken pairs) line line
  unfolding tied_of
  tie_refused line r why e f =
      did_as (tie_as (Err why) e)
      (did_quiet (walk (refused_as z why) met walked back taken pairs) _ line (ap (λ (x : Walker). walk x met walked back taken pairs) f))

  pub tie_ring : (w : Walk) (line said : Spoken) (b : ℕ) → v ≡ Ok b → Did (ring_turn (walk z met walked back taken pairs) k s t) w line said → Did (tie_turn g (walk z met walked back taken pairs) k s t) w line said
  unfolding tied_of
  tie_ring w line said b e d = did_as (tie_as (Ok b) e) d

-- ---- the next root
module _ (g : Graph) (z : Walker) (met walked back taken pairs : List ℕ) where
  pub root_none : (line : Spoken) → g.size ≤ z.next → Did (root_turn g (walk z met walked back taken pairs)) (walk z met walked back taken pairs) line line
  unfolding root_turn
  root_none line h =
      did_as (simp (le-leb g.size z.next h)) (did_quiet (walk z met walked back taken pairs) _ line refl)

  pub root_passed_lem : (line : Spoken) (r : Walker) (m : ℕ) → z.next < g.size → m ≡ get_or met z.next 0 → m ≢ 0 → r ≡ root_passed z → Did (root_turn g (walk z met walked back taken pairs)) (walk r met walked back taken pairs) line line
  unfolding root_turn
  root_passed_lem line r m h e d f =
      did_as (simp (lt-leb g.size z.next h, ne_eqb (get_or met z.next 0) 0 (λ q. d (e ∙ q))))
      (did_quiet (walk (root_passed z) met walked back taken pairs) _ line (ap (λ (x : Walker). walk x met walked back taken pairs) f))

  pub root_new : (line said : Spoken) (v' : Walk) (y : Walker) (m : ℕ) (kind as_said : AtomKind) → z.next < g.size → m ≡ get_or met z.next 0 → m ≡ 0 → y ≡ root_passed z → kind ≡ kind_at g z.next → as_said ≡ said_as kind 0 → said ≡ say_t line (Root as_said) → v' ≡ met_at (walk y met walked back taken pairs) y z.next 0 → Did (root_turn g (walk z met walked back taken pairs)) v' line said
  unfolding root_turn
  root_new line said v' y m kind as_said h e d f n q i mk =
      did_as (simp (lt-leb g.size z.next h, eq-eqb (get_or met z.next 0) 0 (sym e ∙ d)))
      (record {
        after = mk ∙ ap (λ (x : Walker). met_at (walk z met walked back taken pairs) x z.next 0) f;
        said = say_one line said (Root (said_as (kind_at g z.next) 0)) (i ∙ ap (λ (x : AtomKind). say_t line (Root x)) (q ∙ ap (λ (x : AtomKind). said_as x 0) n));
      })

-- ---- a bond of the atom s
module _ (g : Graph) (z : Walker) (met walked back taken pairs : List ℕ) (s : ℕ) (b : BondEntry) where
  pub bond_unknown : (line : Spoken) (r : Walker) → g.size ≤ b.to → r ≡ refused_as z (UnknownTarget s b.to) → Did (bond_turn g (walk z met walked back taken pairs) s b) (walk r met walked back taken pairs) line line
  unfolding bond_turn
  bond_unknown line r h f =
      did_as (simp (le-leb g.size b.to h))
      (did_quiet (walk (refused_as z (UnknownTarget s b.to)) met walked back taken pairs) _ line (ap (λ (x : Walker). walk x met walked back taken pairs) f))

  pub bond_loop : (line : Spoken) (r : Walker) → b.to < g.size → b.to ≡ s → r ≡ refused_as z (Loop s) → Did (bond_turn g (walk z met walked back taken pairs) s b) (walk r met walked back taken pairs) line line
  unfolding bond_turn
  bond_loop line r h e f =
      did_as (simp (lt-leb g.size b.to h, eq-eqb b.to s e))
      (did_quiet (walk (refused_as z (Loop s)) met walked back taken pairs) _ line (ap (λ (x : Walker). walk x met walked back taken pairs) f))

  pub bond_new : (w : Walk) (line said : Spoken) (m : ℕ) → b.to < g.size → b.to ≢ s → m ≡ get_or met b.to 0 → m ≡ 0 → Did (enter_turn g (walk z met walked back taken pairs) b.kind s b.to) w line said → Did (bond_turn g (walk z met walked back taken pairs) s b) w line said
  unfolding bond_turn
  bond_new w line said m h e f d i =
      did_as (simp (lt-leb g.size b.to h, ne_eqb b.to s e, eq-eqb (get_or met b.to 0) 0 (sym f ∙ d))) i

  pub bond_met : (w : Walk) (line said : Spoken) (m : ℕ) → b.to < g.size → b.to ≢ s → m ≡ get_or met b.to 0 → m ≢ 0 → Did (tie_turn g (walk z met walked back taken pairs) b.kind s b.to) w line said → Did (bond_turn g (walk z met walked back taken pairs) s b) w line said
  unfolding bond_turn
  bond_met w line said m h e f d i =
      did_as (simp (lt-leb g.size b.to h, ne_eqb b.to s e, ne_eqb (get_or met b.to 0) 0 (λ q. d (f ∙ q)))) i

-- ---- the current atom a
module _ (g : Graph) (z : Walker) (met walked back taken pairs : List ℕ) (a i : ℕ) (here : i ≡ get_or taken a 0) where
  pub atom_left : (line : Spoken) (r : Walker) (d : ℕ) → d ≡ degree_at g a → d ≤ i → r ≡ left_in g.bonds g.first back z a → Did (atom_of g (walk z met walked back taken pairs) a) (walk r met walked back taken pairs) line line
  unfolding atom_of
  atom_left line r d e h f =
      did_as (simp (le-leb (degree_at g a) (get_or taken a 0) (rw (e, here) at h)))
      (did_quiet (walk (left_in g.bonds g.first back z a) met walked back taken pairs) _ line (ap (λ (x : Walker). walk x met walked back taken pairs) f))

  entry_as : (d : ℕ) → d ≡ degree_at g a → i < d → atom_of g (walk z met walked back taken pairs) a ≡ entry_turn g (walk z met walked back taken pairs) a i
  unfolding atom_of
  entry_as d e h =
      (simp (lt-leb (degree_at g a) (get_or taken a 0) (rw (e, here) at h))) ∙ ap (λ (x : ℕ). entry_turn g (walk z met walked back taken pairs) a x) (sym here)

  pub atom_past : (line : Spoken) (taken' : List ℕ) (d p : ℕ) → d ≡ degree_at g a → i < d → taken' ≡ set taken a (i + 1) → p ≡ get_or back a 0 → p ≡ i + 1 → Did (atom_of g (walk z met walked back taken pairs) a) (walk z met walked back taken' pairs) line line
  unfolding entry_turn
  atom_past line taken' d p e h t f q =
      did_as (entry_as d e h ∙ simp (eq-eqb (get_or back a 0) (i + 1) (sym f ∙ q)))
      (did_quiet (took_at (walk z met walked back taken pairs) a i) _ line (ap (λ (x : List ℕ). walk z met walked back x pairs) t))

  pub atom_bond : (w : Walk) (line said : Spoken) (taken' : List ℕ) (d p : ℕ) (b : BondEntry) → d ≡ degree_at g a → i < d → taken' ≡ set taken a (i + 1) → p ≡ get_or back a 0 → p ≢ i + 1 → b ≡ bond_of g a i → Did (bond_turn g (walk z met walked back taken' pairs) a b) w line said → Did (atom_of g (walk z met walked back taken pairs) a) w line said
  unfolding entry_turn
  atom_bond w line said taken' d p b e h t f q o j =
      did_as
      (entry_as d e h
      ∙ (simp (ne_eqb (get_or back a 0) (i + 1) (λ x. q (f ∙ x))))
      ∙ ap (λ (x : BondEntry). bond_turn g (took_at (walk z met walked back taken pairs) a i) a x) (sym o)
      ∙ ap (λ (x : List ℕ). bond_turn g (walk z met walked back x pairs) a b) (sym t))
      j

-- ---- a turn
pub turn_standing : (g : Graph) (w v : Walk) (line said : Spoken) (a : ℕ) → w.at.here ≡ Some a → Did (atom_of g w a) v line said → Did (turn_of g w) v line said
unfolding turn_of
turn_standing g w v line said a h d = did_as (ap (turn_at g w) h) d

pub turn_root : (g : Graph) (w v : Walk) (line said : Spoken) → w.at.here ≡ None → Did (root_turn g w) v line said → Did (turn_of g w) v line said
unfolding turn_of
turn_root g w v line said h d = did_as (ap (turn_at g w) h) d
