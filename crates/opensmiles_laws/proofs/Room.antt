-- Events that make a molecule meet nothing exactly if there is room for all its atoms and entries and each mark that has to be
-- turned can be. Assumes nothing.
use Prim.Native.Nat.{ℕ, zero, suc, ◌+◌, ◌<◌, ◌≤◌}
use mathlib.Core.Path.{◌≡◌, refl, sym, ap, ◌∙◌, subst}
use mathlib.Core.Bool.{Bool, true, false}
use mathlib.Core.List.{List, [], ◌∷◌, ◌++◌}
use mathlib.Core.Option.{Option, none, some}
use mathlib.Core.Logic.{◌⊎◌, inl, inr}
use native.Mathlib.Omega.{arith}
use lib.Dec.{ltb, leb}
use lib.ListN.{length, drop, length-append}
use borrow.Author.Tests.{ltb-true, ltb-false, leb-true, leb-false}
use Rattle.feature.specs.declared.atom_kind.AtomKind.{AtomKind}
use Rattle.feature.specs.declared.bond_kind.BondKind.{BondKind}
use Rattle.read_line.specs.declared.lead.Lead.{Lead}
use Rattle.read_line.specs.declared.lead.Lead.TheVariants.{Dot, Bond}
use Rattle.read_line.specs.Events.{ReadEvent, Enter, Join, Pop, Miss, Nest}
use Rattle.feature.specs.Bonds.{reverse_of}
use Rattle.feature.proofs.Cases.{impossible}
use Rattle.builder_meaning.specs.Sketch.{To, Held, edge, node, count_of, upd, lookup, add_edge, fill}
use Rattle.builder_meaning.proofs.Rows.{upd_length, count_append, count_add, count_fill}
use Rattle.std.specs.Prelude.{Err}
use Rattle.read.specs.Read.{Answer}
use Rattle.read.specs.declared.ReadError.TheVariants as answer
use Rattle.opensmiles_laws.specs.Molecule.{Molecule, atom_placed, closed, molecule_ringed, numbered, as_held, molecule_told, next, tell_all, molecule_of}
use Rattle.opensmiles_laws.specs.Stops.{Unturnable, Turnable, Meets, no_place, no_slots, not_turned, no_slot, not_turned_after, ends, wrong, deep, Passes, atoms_named, Runs, Stops, begun}
use Rattle.opensmiles_laws.proofs.Steps.{grown_length}
use Rattle.opensmiles_laws.proofs.Marks.{Turns, turns_after, turns_turnable, turnable_turns, dot_passes, bond_passes, join_passes, pop_passes}
use Rattle.opensmiles_laws.proofs.Trace.{none_told, split, stops_none}

-- ---- what one event adds
-- the atoms on a path are among so many
InPath : ℕ → List ℕ → Type 0
InPath n [] = Unit {0}
InPath n (s ∷ at) = (s < n) × InPath n at

path_more : (at : List ℕ) (n m : ℕ) → n ≤ m → InPath n at → InPath m at
unfolding InPath
path_more [] n m h p = tt
path_more (s ∷ at) n m h p = (omega (arith, p.0, h), path_more at n m h p.1)

path_drop : (i : ℕ) (at : List ℕ) (n : ℕ) → InPath n at → InPath n (drop i at)
unfolding InPath
path_drop zero at n p = p
path_drop (suc i) [] n p = tt
path_drop (suc i) (s ∷ at) n p = path_drop i at n p.1

-- how many entries
adds : ReadEvent → ℕ
adds (Enter Dot k at) = 0
adds (Enter (Bond e) k at) = 2
adds (Join e r at) = 1
adds (Pop i) = 0
adds (Miss x) = 0
adds (Nest at) = 0

record Grown (m : Molecule) (e : ReadEvent) (x : Molecule) : Type 0 where
  number : length x.atoms ≡ atoms_named (length m.atoms) e
  entries : count_of x.atoms ≡ count_of m.atoms + adds e
  within : InPath (length x.atoms) x.path

Grows : Molecule → ReadEvent → Option Molecule → Type 0
Grows m e none = Unit {0}
Grows m e (some x) = Grown m e x

module _ (m : Molecule) where
  placed_grows : (l : Lead) (k : AtomKind) (j : AtomKind) (at : ℕ) (path : List ℕ) → InPath (length m.atoms) path → Grows m (Enter l k at) (atom_placed m l j path)
  unfolding atom_placed Grows adds atoms_named InPath count_of
  placed_grows Dot k j at path h =
      let n : length (m.atoms ++ (node j [] ∷ [])) ≡ length m.atoms + 1 = length-append m.atoms (node j [] ∷ []) in
      record { number = n; entries = omega (arith, count_append m.atoms (node j [] ∷ [])); within = (omega (arith, n), path_more path (length m.atoms) _ (omega (arith, n)) h) }
  placed_grows (Bond e) k j at [] h = tt
  placed_grows (Bond e) k j at (s ∷ path) h =
      let n = grown_length s (add_edge (edge e (To (length m.atoms)))) m.atoms (node j (edge (reverse_of e) (To s) ∷ [])) in
      record { number = n; entries = omega (arith, count_append (upd s (add_edge (edge e (To (length m.atoms)))) m.atoms) (node j (edge (reverse_of e) (To s) ∷ []) ∷ []), count_add s (edge e (To (length m.atoms))) m.atoms h.0); within = (omega (arith, n), path_more (s ∷ path) (length m.atoms) _ (omega (arith, n)) h) }

  closed_grows : (e : BondKind) (r at s : ℕ) (h : Held) (o : Option BondKind) → s < length m.atoms → InPath (length m.atoms) m.path → Grows m (Join e r at) (closed m r s h o)
  unfolding closed Grows adds atoms_named
  closed_grows e r at s h none w p = tt
  closed_grows e r at s h (some k) w p =
      let f = upd_length h.atom (fill h.join k s) m.atoms in
      let n = upd_length s (add_edge _) (upd h.atom (fill h.join k s) m.atoms) in
      record { number = n ∙ f; entries = count_add s _ (upd h.atom (fill h.join k s) m.atoms) (omega (arith, w, f)) ∙ ap (λ (i : ℕ). i + 1) (count_fill h.atom h.join k s m.atoms); within = path_more m.path _ _ (omega (arith, n, f)) p }

  ringed_grows : (e : BondKind) (r at s : ℕ) (o : Option Held) → s < length m.atoms → InPath (length m.atoms) m.path → Grows m (Join e r at) (molecule_ringed m e r s o)
  unfolding molecule_ringed Grows adds atoms_named
  ringed_grows e r at s none w p =
      let n = upd_length s (add_edge _) m.atoms in
      record { number = n; entries = count_add s _ m.atoms w; within = path_more m.path _ _ (omega (arith, n)) p }
  ringed_grows e r at s (some h) w p = closed_grows e r at s h _ w p

  numbered_grows : (e : BondKind) (r at : ℕ) (path : List ℕ) → InPath (length m.atoms) path → InPath (length m.atoms) m.path → Grows m (Join e r at) (numbered m e r path)
  unfolding numbered Grows InPath
  numbered_grows e r at [] h p = tt
  numbered_grows e r at (s ∷ path) h p = ringed_grows e r at s (lookup r m.opens) h.0 p

  told_grows : (e : ReadEvent) → InPath (length m.atoms) m.path → Grows m e (molecule_told as_held m e)
  unfolding molecule_told Grows adds atoms_named
  told_grows (Enter l k at) h = placed_grows l k (as_held l k) at m.path h
  told_grows (Join e r at) h = numbered_grows e r at m.path h h
  told_grows (Pop i) h = record { number = refl; entries = omega arith; within = path_drop i m.path (length m.atoms) h }
  told_grows (Miss x) h = tt
  told_grows (Nest at) h = tt

  grown : (e : ReadEvent) (x : Molecule) → InPath (length m.atoms) m.path → molecule_told as_held m e ≡ some x → Grown m e x
  unfolding Grows
  grown e x h t = subst (Grows m e) t (told_grows e h)

-- ---- what an event that passes has
module _ (p l : ℕ) (m : Molecule) (n : ℕ) where
  pass_place : (b : Lead) (k : AtomKind) (at : ℕ) → Passes p l (some m) n (Enter b k at) → n < p
  unfolding Passes
  pass_place b k at h = by (leb p n) refl
    where
      by : (t : Bool) → leb p n ≡ t → n < p
      by true q = absurd (h (Err (answer.AtomRoom at)) (no_place m n b k at (leb-true p n q)))
      by false q = leb-false p n q

  pass_slots : (e : BondKind) (k : AtomKind) (at : ℕ) → Passes p l (some m) n (Enter (Bond e) k at) → count_of m.atoms + 2 ≤ l
  unfolding Passes
  pass_slots e k at h = by (ltb l (count_of m.atoms + 2)) refl
    where
      by : (t : Bool) → ltb l (count_of m.atoms + 2) ≡ t → count_of m.atoms + 2 ≤ l
      by true q = absurd (h (Err (answer.BondRoom at)) (no_slots m n e k at (pass_place (Bond e) k at h) (ltb-true l _ q)))
      by false q = ltb-false l _ q

  pass_mark : (e : BondKind) (k : AtomKind) (at : ℕ) → Passes p l (some m) n (Enter (Bond e) k at) → ¬ Unturnable k
  unfolding Passes
  pass_mark e k at h u = h (Err (answer.Inversion n)) (not_turned m n e k at (pass_place (Bond e) k at h) (pass_slots e k at h) u)

  pass_slot : (e : BondKind) (r at : ℕ) (x : Molecule) → molecule_told as_held m (Join e r at) ≡ some x → Passes p l (some m) n (Join e r at) → count_of m.atoms + 1 ≤ l
  unfolding Passes
  pass_slot e r at x t h = by (ltb l (count_of m.atoms + 1)) refl
    where
      by : (t : Bool) → ltb l (count_of m.atoms + 1) ≡ t → count_of m.atoms + 1 ≤ l
      by true q = absurd (h (Err (answer.BondRoom at)) (no_slot m x n e r at t (ltb-true l _ q)))
      by false q = ltb-false l _ q

-- ---- all events that make a molecule
-- the molecule after the first event
first_some : (e : ReadEvent) (es : List ReadEvent) (m w : Molecule) → tell_all as_held (some m) (e ∷ es) ≡ some w → (x : Molecule) × (molecule_told as_held m e ≡ some x) × (tell_all as_held (some x) es ≡ some w)
unfolding tell_all next
first_some e es m w h = by (molecule_told as_held m e) refl h
  where
    by : (o : Option Molecule) → molecule_told as_held m e ≡ o → tell_all as_held o es ≡ some w → (x : Molecule) × (molecule_told as_held m e ≡ some x) × (tell_all as_held (some x) es ≡ some w)
    by none t g = let f = none_told es in impossible cc
    by (some x) t g = (x, t, g)

next_told : (m x : Molecule) (e : ReadEvent) → molecule_told as_held m e ≡ some x → next as_held (some m) e ≡ some x
unfolding next
next_told m x e t = t

grows_all : (es : List ReadEvent) (m w : Molecule) → InPath (length m.atoms) m.path → tell_all as_held (some m) es ≡ some w
    → (length m.atoms ≤ length w.atoms) × (count_of m.atoms ≤ count_of w.atoms)
unfolding tell_all
grows_all [] m w h t = let g : m ≡ w = cc in subst (λ (x : Molecule). (length m.atoms ≤ length x.atoms) × (count_of m.atoms ≤ count_of x.atoms)) g (omega arith, omega arith)
grows_all (e ∷ es) m w h t =
    let f = first_some e es m w t in
    let g = grown m e f.0 h f.1 in
    let r = grows_all es f.0 w g.within f.2 in
    (omega (arith, r.0, g.number, counts e (length m.atoms)), omega (arith, r.1, g.entries))
  where
    counts : (e : ReadEvent) (n : ℕ) → n ≤ atoms_named n e
    counts (Enter l k at) n = unfold atoms_named in omega arith
    counts (Join b r at) n = unfold atoms_named in omega arith
    counts (Pop i) n = unfold atoms_named in omega arith
    counts (Miss x) n = unfold atoms_named in omega arith
    counts (Nest at) n = unfold atoms_named in omega arith

module _ (p l : ℕ) where
  fits_passes : (e : ReadEvent) (es : List ReadEvent) (m x : Molecule) → molecule_told as_held m e ≡ some x → Grown m e x → length x.atoms ≤ p → count_of x.atoms ≤ l → Turns (e ∷ es) → Passes p l (some m) (length m.atoms) e
  unfolding atoms_named adds Turns molecule_told
  fits_passes (Enter Dot k at) es m x t g f c u = dot_passes p l m (length m.atoms) k at (omega (arith, g.number, f))
  fits_passes (Enter (Bond e) k at) es m x t g f c u = bond_passes p l m (length m.atoms) e k at (omega (arith, g.number, f)) (omega (arith, g.entries, c)) u.0
  fits_passes (Join e r at) es m x t g f c u = join_passes p l m (length m.atoms) e r at (λ y h. omega (arith, g.entries, c))
  fits_passes (Pop i) es m x t g f c u = pop_passes p l (some m) (length m.atoms) i
  fits_passes (Miss y) es m x t g f c u = impossible cc
  fits_passes (Nest at) es m x t g f c u = impossible cc

  room_runs : (es : List ReadEvent) (m w : Molecule) → InPath (length m.atoms) m.path → tell_all as_held (some m) es ≡ some w → length w.atoms ≤ p → count_of w.atoms ≤ l → Turns es
      → Runs p l (some m) (length m.atoms) es
  unfolding Runs
  room_runs [] m w h t f c u = tt
  room_runs (e ∷ es) m w h t f c u =
      let i = first_some e es m w t in
      let g = grown m e i.0 h i.1 in
      let r = grows_all es i.0 w g.within i.2 in
      let q = room_runs es i.0 w g.within i.2 f c (turns_after e es u) in (
        fits_passes e es m i.0 i.1 g (omega (arith, r.0, f)) (omega (arith, r.1, c)) u,
        subst (λ (o : Option Molecule). Runs p l o (atoms_named (length m.atoms) e) es) (sym (next_told m i.0 e i.1)) (subst (λ (n : ℕ). Runs p l (some i.0) n es) g.number q),
      )

  -- and the other way
  passes_fits : (e : ReadEvent) (es : List ReadEvent) (m x : Molecule) → molecule_told as_held m e ≡ some x → Grown m e x → length m.atoms ≤ p → count_of m.atoms ≤ l → Passes p l (some m) (length m.atoms) e → (length x.atoms ≤ p) × (count_of x.atoms ≤ l) × (Turns es → Turns (e ∷ es))
  unfolding atoms_named adds Turns molecule_told
  passes_fits (Enter Dot k at) es m x t g f c q = (omega (arith, g.number, pass_place p l m (length m.atoms) Dot k at q), omega (arith, g.entries, c), λ u. u)
  passes_fits (Enter (Bond e) k at) es m x t g f c q =
      (omega (arith, g.number, pass_place p l m (length m.atoms) (Bond e) k at q), omega (arith, g.entries, pass_slots p l m (length m.atoms) e k at q), λ u. (pass_mark p l m (length m.atoms) e k at q, u))
  passes_fits (Join e r at) es m x t g f c q = (omega (arith, g.number, f), omega (arith, g.entries, pass_slot p l m (length m.atoms) e r at x (unfold molecule_told in t) q), λ u. u)
  passes_fits (Pop i) es m x t g f c q = (omega (arith, g.number, f), omega (arith, g.entries, c), λ u. u)
  passes_fits (Miss y) es m x t g f c q = impossible cc
  passes_fits (Nest at) es m x t g f c q = impossible cc

  runs_room : (es : List ReadEvent) (m w : Molecule) → InPath (length m.atoms) m.path → length m.atoms ≤ p → count_of m.atoms ≤ l → Runs p l (some m) (length m.atoms) es → tell_all as_held (some m) es ≡ some w
      → (length w.atoms ≤ p) × (count_of w.atoms ≤ l) × Turns es
  unfolding Runs tell_all Turns
  runs_room [] m w h f c q t = let g : m ≡ w = cc in subst (λ (x : Molecule). (length x.atoms ≤ p) × (count_of x.atoms ≤ l) × Unit {0}) g (f, c, tt)
  runs_room (e ∷ es) m w h f c q t =
      let i = first_some e es m w t in
      let g = grown m e i.0 h i.1 in
      let k = passes_fits e es m i.0 i.1 g f c q.0 in
      let y = subst (λ (o : Option Molecule). Runs p l o (atoms_named (length m.atoms) e) es) (next_told m i.0 e i.1) q.1 in
      let r = runs_room es i.0 w g.within k.0 k.1 (subst (λ (n : ℕ). Runs p l (some i.0) n es) (sym g.number) y) i.2 in
      (r.0, r.1, k.2 r.2)

  -- ---- what stops the events of a molecule: too many atoms, too many entries, or a mark
  pub data Excess (w : Molecule) (es : List ReadEvent) : Answer → Type 0 where
    places : (at : ℕ) → p < length w.atoms → Excess w es (Err (answer.AtomRoom at))
    slots : (at : ℕ) → l < count_of w.atoms → Excess w es (Err (answer.BondRoom at))
    marks : (n : ℕ) → Excess w es (Err (answer.Inversion n))

  excess_on : (w : Molecule) (e : ReadEvent) (es : List ReadEvent) (a : Answer) → Excess w es a → Excess w (e ∷ es) a
  excess_on w e es _ (places at h) = places at h
  excess_on w e es _ (slots at h) = slots at h
  excess_on w e es _ (marks n) = marks n

  meets_excess : (e : ReadEvent) (es : List ReadEvent) (m x w : Molecule) (n : ℕ) (a : Answer) (o : Option Molecule) → o ≡ some m → n ≡ length m.atoms → molecule_told as_held m e ≡ some x → Grown m e x → length x.atoms ≤ length w.atoms → count_of x.atoms ≤ count_of w.atoms
      → Meets p l o n e a → Excess w (e ∷ es) a
  unfolding atoms_named adds Turns molecule_told
  meets_excess _ es m x w _ _ _ i j t g f c (no_place y n b k at h) = places at (omega (arith, g.number, f, h, j))
  meets_excess _ es m x w _ _ _ i j t g f c (no_slots y n e k at h s) = let v : y ≡ m = cc in slots at (omega (arith, g.entries, c, s, ap (λ (z : Molecule). count_of z.atoms) v))
  meets_excess _ es m x w _ _ _ i j t g f c (not_turned y n e k at h s u) = marks n
  meets_excess _ es m x w _ _ _ i j t g f c (no_slot y z n e r at h s) = let v : y ≡ m = cc in slots at (omega (arith, g.entries, c, s, ap (λ (z : Molecule). count_of z.atoms) v))
  meets_excess _ es m x w _ _ _ i j t g f c (not_turned_after n e k at u) = impossible cc
  meets_excess _ es m x w _ _ _ i j t g f c (ends o n) = impossible cc
  meets_excess _ es m x w _ _ _ i j t g f c (wrong o n at) = impossible cc
  meets_excess _ es m x w _ _ _ i j t g f c (deep o n at) = impossible cc

  stops_excess : (es : List ReadEvent) (m w : Molecule) (a : Answer) → InPath (length m.atoms) m.path → tell_all as_held (some m) es ≡ some w → Stops p l (some m) (length m.atoms) es a → Excess w es a
  stops_excess [] m w a h t s = absurd (stops_none p l (some m) (length m.atoms) a s)
  stops_excess (e ∷ es) m w a h t s =
      let i = first_some e es m w t in
      let g = grown m e i.0 h i.1 in
      let r = grows_all es i.0 w g.within i.2 in
      by i.0 i.1 g r (split p l (some m) (length m.atoms) e es a s) (λ q. stops_excess es i.0 w a g.within i.2 q)
    where
      by : (x : Molecule) → molecule_told as_held m e ≡ some x → Grown m e x → (length x.atoms ≤ length w.atoms) × (count_of x.atoms ≤ count_of w.atoms)
          → Meets p l (some m) (length m.atoms) e a ⊎ (Passes p l (some m) (length m.atoms) e × Stops p l (next as_held (some m) e) (atoms_named (length m.atoms) e) es a)
          → (Stops p l (some x) (length x.atoms) es a → Excess w es a) → Excess w (e ∷ es) a
      by x j g r (inl k) f = meets_excess e es m x w (length m.atoms) a (some m) refl refl j g r.0 r.1 k
      by x j g r (inr k) f =
          excess_on w e es a (f (subst (λ (n : ℕ). Stops p l (some x) n es a) (sym g.number) (subst (λ (o : Option Molecule). Stops p l o (atoms_named (length m.atoms) e) es a) (next_told m x e j) k.1)))

-- ---- FROM THE BEGINNING
module _ (p l : ℕ) (es : List ReadEvent) (w : Molecule) (t : molecule_of as_held es ≡ some w) where
  pub roomy_runs : length w.atoms ≤ p → count_of w.atoms ≤ l → Turnable es → Runs p l begun 0 es
  unfolding molecule_of InPath
  roomy_runs f c u = room_runs p l es _ w tt t f c (turnable_turns es u)

  pub runs_roomy : Runs p l begun 0 es → (length w.atoms ≤ p) × (count_of w.atoms ≤ l) × Turnable es
  unfolding molecule_of InPath count_of
  runs_roomy q = let r = runs_room p l es _ w tt (omega arith) (omega arith) q t in (r.0, r.1, turns_turnable es r.2)

  pub stopped_excess : (a : Answer) → Stops p l begun 0 es a → Excess p l w es a
  unfolding molecule_of InPath
  stopped_excess a s = stops_excess p l es _ w a tt t s
