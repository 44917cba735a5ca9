-- A molecule held in one way and in another: the same neighbours, and other kinds alone. So what is held of a chain is what
-- OpenSMILES means by it. Assumes nothing.
use Prim.Native.Nat.{ℕ, zero, suc}
use mathlib.Core.Path.{◌≡◌, refl, sym, ap, ◌∙◌, subst}
use mathlib.Core.List.{List, [], ◌∷◌, ◌++◌, append_assoc, append-nil}
use mathlib.Core.Option.{Option, none, some}
use lib.ListN.{length}
use Rattle.feature.specs.declared.atom_kind.AtomKind.{AtomKind}
use Rattle.feature.specs.declared.atom_kind.AtomKind.TheVariants.{Star}
use Rattle.feature.specs.declared.bond_kind.BondKind.{BondKind}
use Rattle.feature.proofs.Cases.{impossible}
use Rattle.read_line.specs.declared.lead.Lead.{Lead}
use Rattle.read_line.specs.declared.lead.Lead.TheVariants.{Dot, Bond}
use Rattle.read_line.specs.Events.{ReadEvent, Enter, Join, Pop, Miss, Nest}
use Rattle.builder_meaning.specs.Sketch.{Edge, Node, Held, node, upd, edges_at, add_edge, fill, lookup, first_open_s}
use Rattle.grammar.specs.OpenSmiles.{Chain, says}
use Rattle.opensmiles_laws.specs.Molecule.{Molecule, molecule, atom_placed, closed, molecule_ringed, numbered, as_written, as_held, molecule_told, next, tell_all, molecule_of, neighbours, node_kinds, kind_told, kinds_told, Allowed, Meant, HeldFor}

-- ---- a molecule without its kinds
bare : Lead → AtomKind → AtomKind
bare l k = Star

clear : Node → Node
clear n = node Star n.edges

erase : List Node → List Node
erase [] = []
erase (n ∷ ns) = clear n ∷ erase ns

erase_m : Molecule → Molecule
erase_m m = molecule (erase m.atoms) m.path m.opens m.joins

erased : Option Molecule → Option Molecule
erased none = none
erased (some m) = some (erase_m m)

erase_length : (ns : List Node) → length (erase ns) ≡ length ns
unfolding erase
erase_length [] = refl
erase_length (n ∷ ns) = rw (erase_length ns)

erase_append : (ns ms : List Node) → erase (ns ++ ms) ≡ erase ns ++ erase ms
unfolding erase
erase_append [] ms = refl
erase_append (n ∷ ns) ms = rw (erase_append ns ms)

erase_upd : (f : Node → Node) → ((n : Node) → f (clear n) ≡ clear (f n)) → (i : ℕ) (ns : List Node) → upd i f (erase ns) ≡ erase (upd i f ns)
unfolding erase upd
erase_upd f h i [] = refl
erase_upd f h zero (n ∷ ns) = rw (h n)
erase_upd f h (suc i) (n ∷ ns) = rw (erase_upd f h i ns)

erase_edges : (i : ℕ) (ns : List Node) → edges_at i (erase ns) ≡ edges_at i ns
unfolding erase edges_at clear
erase_edges i [] = refl
erase_edges zero (n ∷ ns) = refl
erase_edges (suc i) (n ∷ ns) = erase_edges i ns

clear_add : (e : Edge) (n : Node) → add_edge e (clear n) ≡ clear (add_edge e n)
unfolding add_edge clear
clear_add e n = refl

clear_fill : (j : ℕ) (k : BondKind) (t : ℕ) (n : Node) → fill j k t (clear n) ≡ clear (fill j k t n)
unfolding fill clear
clear_fill j k t n = refl

-- ---- is told in the same way
placed_erased : (m : Molecule) (l : Lead) (k : AtomKind) (at : List ℕ) → atom_placed (erase_m m) l Star at ≡ erased (atom_placed m l k at)
unfolding atom_placed erased erase_m erase clear
placed_erased m Dot k at = rw (erase_length m.atoms, erase_append m.atoms (node k [] ∷ []))
placed_erased m (Bond e) k [] = refl
placed_erased m (Bond e) k (s ∷ at) = rw (erase_length m.atoms, erase_append, erase_upd (add_edge _) (clear_add _) s m.atoms)

closed_erased : (m : Molecule) (n s : ℕ) (h : Held) (o : Option BondKind) → closed (erase_m m) n s h o ≡ erased (closed m n s h o)
unfolding closed erased erase_m
closed_erased m n s h none = refl
closed_erased m n s h (some k) =
    rw (erase_upd (fill h.join k s) (clear_fill h.join k s) h.atom m.atoms, erase_upd (add_edge _) (clear_add _) s (upd h.atom (fill h.join k s) m.atoms))

ringed_erased : (m : Molecule) (e : BondKind) (n s : ℕ) (o : Option Held) → molecule_ringed (erase_m m) e n s o ≡ erased (molecule_ringed m e n s o)
unfolding molecule_ringed erased erase_m
ringed_erased m e n s none = rw (erase_upd (add_edge _) (clear_add _) s m.atoms)
ringed_erased m e n s (some h) = rw (erase_edges h.atom m.atoms) (closed_erased m n s h _)

numbered_erased : (m : Molecule) (e : BondKind) (n : ℕ) (at : List ℕ) → numbered (erase_m m) e n at ≡ erased (numbered m e n at)
unfolding numbered erased erase_m
numbered_erased m e n [] = refl
numbered_erased m e n (s ∷ at) = ringed_erased m e n s (lookup n m.opens)

module _ (hold : Lead → AtomKind → AtomKind) where
  told_erased : (m : Molecule) (e : ReadEvent) → molecule_told bare (erase_m m) e ≡ erased (molecule_told hold m e)
  unfolding molecule_told bare erased erase_m
  told_erased m (Enter l k place) = placed_erased m l (hold l k) m.path
  told_erased m (Join e n place) = numbered_erased m e n m.path
  told_erased m (Pop n) = refl
  told_erased m (Miss x) = refl
  told_erased m (Nest place) = refl

  next_erased : (o : Option Molecule) (e : ReadEvent) → next bare (erased o) e ≡ erased (next hold o e)
  unfolding next erased
  next_erased none e = refl
  next_erased (some m) e = told_erased m e

  all_erased : (es : List ReadEvent) (o : Option Molecule) → tell_all bare (erased o) es ≡ erased (tell_all hold o es)
  unfolding tell_all
  all_erased [] o = refl
  all_erased (e ∷ es) o = rw (next_erased o e) (all_erased es (next hold o e))

  molecule_erased : (es : List ReadEvent) → molecule_of bare es ≡ erased (molecule_of hold es)
  unfolding molecule_of erased erase_m erase
  molecule_erased es = all_erased es (some (molecule [] [] [] 0))

-- ---- the kinds
kinds_upd : (f : Node → Node) → ((n : Node) → (f n).kind ≡ n.kind) → (i : ℕ) (ns : List Node) → node_kinds (upd i f ns) ≡ node_kinds ns
unfolding node_kinds upd
kinds_upd f h i [] = refl
kinds_upd f h zero (n ∷ ns) = rw (h n)
kinds_upd f h (suc i) (n ∷ ns) = rw (kinds_upd f h i ns)

kinds_append : (ns ms : List Node) → node_kinds (ns ++ ms) ≡ node_kinds ns ++ node_kinds ms
unfolding node_kinds
kinds_append [] ms = refl
kinds_append (n ∷ ns) ms = rw (kinds_append ns ms)

kind_add : (e : Edge) (n : Node) → (add_edge e n).kind ≡ n.kind
unfolding add_edge
kind_add e n = refl

kind_fill : (j : ℕ) (k : BondKind) (t : ℕ) (n : Node) → (fill j k t n).kind ≡ n.kind
unfolding fill
kind_fill j k t n = refl

-- a molecule with these kinds, if any
Kinds : List AtomKind → Option Molecule → Type 0
Kinds ks none = Unit {0}
Kinds ks (some m) = node_kinds m.atoms ≡ ks

placed_kinds : (m : Molecule) (l : Lead) (k : AtomKind) (at : List ℕ) → Kinds (node_kinds m.atoms ++ (k ∷ [])) (atom_placed m l k at)
unfolding atom_placed Kinds node_kinds
placed_kinds m Dot k at = kinds_append m.atoms (node k [] ∷ [])
placed_kinds m (Bond e) k [] = tt
placed_kinds m (Bond e) k (s ∷ at) = rw (kinds_append, kinds_upd (add_edge _) (kind_add _) s m.atoms)

closed_kinds : (m : Molecule) (n s : ℕ) (h : Held) (o : Option BondKind) → Kinds (node_kinds m.atoms) (closed m n s h o)
unfolding closed Kinds
closed_kinds m n s h none = tt
closed_kinds m n s h (some k) = kinds_upd (add_edge _) (kind_add _) s _ ∙ kinds_upd (fill h.join k s) (kind_fill h.join k s) h.atom m.atoms

ringed_kinds : (m : Molecule) (e : BondKind) (n s : ℕ) (o : Option Held) → Kinds (node_kinds m.atoms) (molecule_ringed m e n s o)
unfolding molecule_ringed Kinds
ringed_kinds m e n s none = kinds_upd (add_edge _) (kind_add _) s m.atoms
ringed_kinds m e n s (some h) = closed_kinds m n s h _

numbered_kinds : (m : Molecule) (e : BondKind) (n : ℕ) (at : List ℕ) → Kinds (node_kinds m.atoms) (numbered m e n at)
unfolding numbered Kinds
numbered_kinds m e n [] = tt
numbered_kinds m e n (s ∷ at) = ringed_kinds m e n s (lookup n m.opens)

module _ (hold : Lead → AtomKind → AtomKind) where
  told_kinds : (m : Molecule) (e : ReadEvent) → Kinds (node_kinds m.atoms ++ kind_told hold e) (molecule_told hold m e)
  unfolding molecule_told kind_told Kinds
  told_kinds m (Enter l k place) = placed_kinds m l (hold l k) m.path
  told_kinds m (Join e n place) = rw append-nil (numbered_kinds m e n m.path)
  told_kinds m (Pop n) = rw append-nil
  told_kinds m (Miss x) = tt
  told_kinds m (Nest place) = tt

  next_kinds : (o : Option Molecule) (e : ReadEvent) (ks : List AtomKind) → Kinds ks o → Kinds (ks ++ kind_told hold e) (next hold o e)
  unfolding next Kinds
  next_kinds none e ks h = tt
  next_kinds (some m) e ks h = rw h at (told_kinds m e)

  all_kinds : (es : List ReadEvent) (ks : List AtomKind) (o : Option Molecule) → Kinds ks o → Kinds (ks ++ kinds_told hold es) (tell_all hold o es)
  unfolding tell_all kinds_told
  all_kinds [] ks o h = rw append-nil h
  all_kinds (e ∷ es) ks o h = rw append_assoc at (all_kinds es (ks ++ kind_told hold e) (next hold o e) (next_kinds o e ks h))

  molecule_kinds : (es : List ReadEvent) (m : Molecule) → molecule_of hold es ≡ some m → node_kinds m.atoms ≡ kinds_told hold es
  unfolding molecule_of Kinds node_kinds
  molecule_kinds es m h = subst (Kinds (kinds_told hold es)) h (all_kinds es [] (some (molecule [] [] [] 0)) refl)

-- ---- two molecules that differ in kinds alone
erase_neighbours : (ns : List Node) → neighbours (erase ns) ≡ neighbours ns
unfolding neighbours erase clear
erase_neighbours [] = refl
erase_neighbours (n ∷ ns) = rw (erase_neighbours ns)

erase_open : (ns : List Node) → first_open_s (erase ns) ≡ first_open_s ns
unfolding first_open_s erase clear
erase_open [] = refl
erase_open (n ∷ ns) = rw (erase_open ns)

module _ (ns ms : List Node) (e : erase ns ≡ erase ms) where
  same_neighbours : neighbours ns ≡ neighbours ms
  same_neighbours = sym (erase_neighbours ns) ∙ ap neighbours e ∙ erase_neighbours ms

  same_open : first_open_s ns ≡ first_open_s ms
  same_open = sym (erase_open ns) ∙ ap first_open_s e ∙ erase_open ms

  same_edges : (a : ℕ) → edges_at a ns ≡ edges_at a ms
  same_edges a = sym (erase_edges a ns) ∙ ap (edges_at a) e ∙ erase_edges a ms

  same_allowed : Allowed ms → Allowed ns
  same_allowed h = record {
    self_free = λ j. h.self_free (record { atom = j.atom; itself = rw (same_edges j.atom) at j.itself });
    twice_free = λ j. h.twice_free (record { atom = j.atom; other = j.other; apart = j.apart; twice = rw (same_edges j.atom) at j.twice });
  }

unfoldable pub atoms_in : Option Molecule → List Node
atoms_in none = []
atoms_in (some m) = m.atoms

other : (o : Option Molecule) (m : Molecule) → erased o ≡ erased (some m) → (x : Molecule) × (o ≡ some x) × (erase x.atoms ≡ erase m.atoms)
unfolding erased erase_m
other none m h = impossible cc
other (some x) m h = (x, refl, unfold atoms_in in ap atoms_in h)

-- held in one way and in another
otherwise : (f g : Lead → AtomKind → AtomKind) (es : List ReadEvent) (m : Molecule) → molecule_of f es ≡ some m
    → (x : Molecule) × (molecule_of g es ≡ some x) × (erase x.atoms ≡ erase m.atoms)
otherwise f g es m h = other (molecule_of g es) m (sym (molecule_erased g es) ∙ molecule_erased f es ∙ ap erased h)

-- what OpenSMILES means by a chain, and what is held for it
pub meant_held : (u : Chain) (meant : List Node) → Meant u meant → (x : Molecule) × (molecule_of as_held (says u) ≡ some x) × (first_open_s x.atoms ≡ none) × HeldFor u meant x.atoms
meant_held u meant m =
    let o = otherwise as_written as_held (says u) m.whole m.is in
    let e : erase o.0.atoms ≡ erase meant = o.2 ∙ ap erase m.atoms in (
      o.0,
      o.1,
      same_open o.0.atoms meant e ∙ m.rings,
      record {
        around = same_neighbours o.0.atoms meant e;
        here = molecule_kinds as_held (says u) o.0 o.1;
        there = ap node_kinds (sym m.atoms) ∙ molecule_kinds as_written (says u) m.whole m.is;
      },
    )

pub held_meant : (u : Chain) (x : Molecule) → molecule_of as_held (says u) ≡ some x → first_open_s x.atoms ≡ none → Allowed x.atoms → (meant : List Node) × Meant u meant × HeldFor u meant x.atoms
held_meant u x i c a =
    let o = otherwise as_held as_written (says u) x i in (
      o.0.atoms,
      record { whole = o.0; is = o.1; atoms = refl; rings = same_open o.0.atoms x.atoms o.2 ∙ c; allowed = same_allowed o.0.atoms x.atoms o.2 a },
      record {
        around = same_neighbours x.atoms o.0.atoms (sym o.2);
        here = molecule_kinds as_held (says u) x i;
        there = molecule_kinds as_written (says u) o.0 o.1;
      },
    )
