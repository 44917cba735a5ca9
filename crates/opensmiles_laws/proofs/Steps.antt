-- One event of a reading, beside the molecule in the making: it meets something and is refused so, or the graph goes on with the
-- molecule, or the two ends of a ring bond don't agree. Assumes nothing.
use Prim.Native.Nat.{ℕ, ◌+◌, ◌-◌, ◌<◌, ◌≤◌}
use mathlib.Core.Path.{◌≡◌, refl, sym, ap, ◌∙◌, subst}
use mathlib.Core.List.{List, [], ◌∷◌, ◌++◌}
use mathlib.Core.Option.{Option, none, some}
use native.Mathlib.Omega.{arith}
use lib.Dec.{ltb, leb}
use lib.ListN.{length, length-append, length-drop}
use borrow.Author.Tests.{ltb-true, ltb-false, leb-true, leb-false}
use Rattle.feature.specs.Pick.{pick}
use Rattle.feature.specs.Kinds.{invert_of, turned_or}
use Rattle.feature.specs.declared.atom_kind.AtomKind.{AtomKind}
use Rattle.std.specs.Prelude as std
use Rattle.std.specs.Prelude.{Some}
use Rattle.feature.specs.declared.bond_kind.BondKind.{BondKind}
use Rattle.feature.proofs.Cases.{by_test, impossible}
use Rattle.desk_numbers.specs.Numbers.{inversion, atom_room, bond_room, nesting}
use Rattle.read_token.specs.declared.scanner.Missing.{Missing}
use Rattle.read_token.specs.declared.scanner.Missing.TheVariants as missing
use Rattle.read_line.specs.declared.lead.Lead.TheVariants.{Dot, Bond}
use Rattle.read_line.specs.Events.{ReadEvent, Enter, Join, Pop, Miss, Nest}
use Rattle.builder_meaning.specs.Sketch.{Node, Held, Failure, None, Failed, Sketch, node, refused, next_number, count_of, upd, edges_at, open_kind, lookup, first_of, root_s, bonded_s, extend_s, opened_s, closed_s, ring_s, join_s, judged_s, enter_s, number_s, missed_s, step_s}
use Rattle.builder_meaning.proofs.Rows.{upd_length}
use Rattle.std.specs.Prelude.{Err}
use Rattle.read.specs.Read.{Answer}
use Rattle.read.specs.declared.ReadError.TheVariants as answer
use Rattle.read.specs.Read.{read_refusal}
use Rattle.opensmiles_laws.specs.Molecule.{Molecule, molecule, atom_placed, agreed, closed, molecule_ringed, numbered, as_held, molecule_told}
use Rattle.opensmiles_laws.proofs.Joined.{ends, reconciled}
use Rattle.opensmiles_laws.specs.Stops.{Meets, no_place, no_slots, not_turned, no_slot, not_turned_after, wrong, deep, Passes, atoms_named, Fails, fails}
use Rattle.opensmiles_laws.specs.Stops as stops
use Rattle.opensmiles_laws.proofs.Marks.{refused_unturnable, turned_turnable, dot_passes, bond_passes, join_passes, pop_passes, dot_after, bond_after, join_after}

-- the molecule in a graph in the making
abbrev pub molecule_in : Sketch → Molecule
molecule_in d = molecule d.nodes d.path d.opens d.joins

-- a graph that goes on: its atoms are the molecule's, so many are on the path
pub record Beside (p l : ℕ) (d : Sketch) (n depth : ℕ) : Type 0 where
  pub places : d.places ≡ p
  pub slots : d.slots ≡ l
  pub going : d.refusal ≡ 0
  pub sound : d.failure ≡ None
  pub seen : d.unseen ≡ 0
  pub number : length d.nodes ≡ n
  pub level : length d.path ≡ depth

-- one in which a join has failed
pub record Broken (d : Sketch) (n x y : ℕ) : Type 0 where
  pub going : d.refusal ≡ 0
  pub failed : d.failure ≡ Failed x y
  pub number : next_number d ≡ n

-- refused with this answer
pub record Told (d : Sketch) (a : Answer) : Type 0 where
  pub refused : ¬ (d.refusal ≡ 0)
  pub is : read_refusal d.refusal d.carried ≡ a

pub data Stepped (p l : ℕ) (m : Molecule) (n : ℕ) (e : ReadEvent) (depth : ℕ) (d : Sketch) : Type 0 where
  halts : (a : Answer) → Meets p l (some m) n e a → Told d a → Stepped p l m n e depth d
  passes : Passes p l (some m) n e → molecule_told as_held m e ≡ some (molecule_in d) → Beside p l d (atoms_named n e) depth → Stepped p l m n e depth d
  breaks : (x y : ℕ) → Passes p l (some m) n e → Fails (some m) e x y → molecule_told as_held m e ≡ none → Broken d (atoms_named n e) x y → Stepped p l m n e depth d

room_told : (d : Sketch) (at : ℕ) → Told (refused d atom_room at) (Err (answer.AtomRoom at))
unfolding read_refusal
room_told d at = record { refused = λ h. omega (arith, h); is = refl }

slot_told : (d : Sketch) (at : ℕ) → Told (refused d bond_room at) (Err (answer.BondRoom at))
unfolding read_refusal
slot_told d at = record { refused = λ h. omega (arith, h); is = refl }

mark_told : (d : Sketch) (i n : ℕ) → i ≡ n → Told (refused d inversion i) (Err (answer.Inversion n))
unfolding read_refusal
mark_told d i n e = record { refused = λ h. omega (arith, h); is = ap (λ (x : ℕ). (Err (answer.Inversion x))) e }

missed_told : (d : Sketch) → Told (missed_s d missing.EndOfLine) (Err answer.EndOfLine)
unfolding read_refusal missed_s
missed_told d = record { refused = λ h. omega (arith, h); is = refl }

wrong_told : (d : Sketch) (at : ℕ) → Told (missed_s d (missing.Character at)) (Err (answer.Character at))
unfolding read_refusal missed_s
wrong_told d at = record { refused = λ h. omega (arith, h); is = refl }

nest_told : (d : Sketch) (at : ℕ) → Told (refused d nesting at) (Err (answer.Nesting at))
unfolding read_refusal
nest_told d at = record { refused = λ h. omega (arith, h); is = refl }

pub grown_length : (s : ℕ) (f : Node → Node) (ns : List Node) (x : Node) → length (upd s f ns ++ (x ∷ [])) ≡ length ns + 1
grown_length s f ns x = length-append (upd s f ns) (x ∷ []) ∙ ap (λ (i : ℕ). i + 1) (upd_length s f ns)

module _ (p l : ℕ) (d : Sketch) (n depth : ℕ) (b : Beside p l d n depth) where
  numbers : next_number d ≡ n
  unfolding next_number
  numbers = omega (arith, b.seen, b.number)

  long : next_number d ≡ length d.nodes
  long = numbers ∙ sym b.number

  -- what is said of a graph in which no join has failed
  unfailed : (P : Sketch → Type 0) (x : Failure → Sketch) → P (x None) → P (x d.failure)
  unfailed P x h = subst (λ (f : Failure). P (x f)) (sym b.sound) h

  root_step : (k : AtomKind) (at : ℕ) → Stepped p l (molecule_in d) n (Enter Dot k at) (depth + 1) (root_s d k at)
  unfolding root_s molecule_told atom_placed as_held atoms_named
  root_step k at =
      by_test (Stepped p l (molecule_in d) n (Enter Dot k at) (depth + 1)) (leb d.places (next_number d))
      (λ q. halts (Err (answer.AtomRoom at)) (no_place (molecule_in d) n Dot k at (omega (arith, leb-true d.places (next_number d) q, numbers, b.places))) (room_told d at))
      (λ q. passes (dot_passes p l (molecule_in d) n k at (omega (arith, leb-false d.places (next_number d) q, numbers, b.places))) (rw long)
      (record { places = b.places; slots = b.slots; going = b.going; sound = b.sound; seen = b.seen; number = length-append d.nodes (node k [] ∷ []) ∙ ap (λ (i : ℕ). i + 1) b.number; level = omega (arith, b.level) }))

  bonded_step : (e : BondKind) (k : AtomKind) (at s : ℕ) (path : List ℕ) (i : std.Option AtomKind) → d.path ≡ s ∷ path → invert_of k ≡ i → n < p → count_of d.nodes + 2 ≤ l
      → Stepped p l (molecule_in d) n (Enter (Bond e) k at) (depth + 1) (bonded_s d e s i)
  unfolding bonded_s molecule_told atom_placed as_held turned_or atoms_named
  bonded_step e k at s path std.None h i g f =
      halts (Err (answer.Inversion n)) (not_turned (molecule_in d) n e k at g f (refused_unturnable k i)) (mark_told d (next_number d) n numbers)
  bonded_step e k at s path (Some j) h i g f =
      passes (bond_passes p l (molecule_in d) n e k at g f (turned_turnable k j i)) (ap (λ (z : std.Option AtomKind). atom_placed (molecule_in d) (Bond e) (turned_or k z) d.path) i ∙ ap (atom_placed (molecule_in d) (Bond e) j) h ∙ (rw (long, h)))
      (record { places = b.places; slots = b.slots; going = b.going; sound = b.sound; seen = b.seen; number = grown_length s _ d.nodes _ ∙ ap (λ (i : ℕ). i + 1) b.number; level = omega (arith, b.level) })

  extend_step : (e : BondKind) (k : AtomKind) (at : ℕ) (path : List ℕ) → d.path ≡ path → 0 < length path → Stepped p l (molecule_in d) n (Enter (Bond e) k at) (depth + 1) (extend_s d e k at path)
  unfolding extend_s
  extend_step e k at [] h z = absurd (omega (arith, z))
  extend_step e k at (s ∷ path) h z =
      by_test (Stepped p l (molecule_in d) n (Enter (Bond e) k at) (depth + 1)) (leb d.places (next_number d))
      (λ q. halts (Err (answer.AtomRoom at)) (no_place (molecule_in d) n (Bond e) k at (omega (arith, leb-true d.places (next_number d) q, numbers, b.places))) (room_told d at))
      (λ q. let g : n < p = omega (arith, leb-false d.places (next_number d) q, numbers, b.places) in
      by_test (Stepped p l (molecule_in d) n (Enter (Bond e) k at) (depth + 1)) (ltb d.slots (count_of d.nodes + 2))
      (λ r. halts (Err (answer.BondRoom at)) (no_slots (molecule_in d) n e k at g (omega (arith, ltb-true d.slots (count_of d.nodes + 2) r, b.slots))) (slot_told d at))
      (λ r. bonded_step e k at s path (invert_of k) h refl g (omega (arith, ltb-false d.slots (count_of d.nodes + 2) r, b.slots))))

  -- an entry for a ring number, if there is a slot
  slot_step : (e : BondKind) (r at : ℕ) (d' : Sketch) → molecule_told as_held (molecule_in d) (Join e r at) ≡ some (molecule_in d') → (Beside p l d' n depth)
      → Stepped p l (molecule_in d) n (Join e r at) depth (pick (ltb d.slots (count_of d.nodes + 1)) (refused d bond_room at) d')
  unfolding atoms_named
  slot_step e r at d' t c =
      by_test (Stepped p l (molecule_in d) n (Join e r at) depth) (ltb d.slots (count_of d.nodes + 1))
      (λ q. halts (Err (answer.BondRoom at)) (no_slot (molecule_in d) (molecule_in d') n e r at t (omega (arith, ltb-true d.slots (count_of d.nodes + 1) q, b.slots))) (slot_told d at))
      (λ q. passes (join_passes p l (molecule_in d) n e r at (λ x h. omega (arith, ltb-false d.slots (count_of d.nodes + 1) q, b.slots))) t c)

  closed_step : (e : BondKind) (r at s : ℕ) (path : List ℕ) (h : Held) (o : Option BondKind) → d.path ≡ s ∷ path → lookup r d.opens ≡ some h
      → agreed (open_kind h.join (edges_at h.atom d.nodes)) e ≡ o → molecule_told as_held (molecule_in d) (Join e r at) ≡ closed (molecule_in d) r s h o
      → Stepped p l (molecule_in d) n (Join e r at) depth (closed_s d r at s h (ends o))
  unfolding closed_s closed ends first_of atoms_named
  closed_step e r at s path h none w f a t =
      breaks s h.atom (join_passes p l (molecule_in d) n e r at (λ x g. impossible cc)) (fails (molecule_in d) e r at s path h w f a) t
      (record { going = b.going; failed = rw b.sound; number = unfold next_number in omega (arith, b.seen, b.number) })
  closed_step e r at s path h (some k) w f a t =
      slot_step e r at _ t
      (record { places = b.places; slots = b.slots; going = b.going; sound = b.sound; seen = b.seen; number = upd_length s _ _ ∙ upd_length h.atom _ d.nodes ∙ b.number; level = b.level })

  ring_step : (e : BondKind) (r at s : ℕ) (path : List ℕ) (o : Option Held) → d.path ≡ s ∷ path → lookup r d.opens ≡ o
      → molecule_told as_held (molecule_in d) (Join e r at) ≡ molecule_ringed (molecule_in d) e r s o → Stepped p l (molecule_in d) n (Join e r at) depth (ring_s d e r at s o)
  unfolding ring_s molecule_ringed opened_s
  ring_step e r at s path none w f t =
      slot_step e r at _ t
      (record { places = b.places; slots = b.slots; going = b.going; sound = b.sound; seen = b.seen; number = upd_length s _ d.nodes ∙ b.number; level = b.level })
  ring_step e r at s path (some h) w f t =
      rw (reconciled (open_kind h.join (edges_at h.atom d.nodes)) e) (closed_step e r at s path h _ w f refl t)

  join_step : (e : BondKind) (r at : ℕ) (path : List ℕ) → d.path ≡ path → 0 < length path → Stepped p l (molecule_in d) n (Join e r at) depth (join_s d e r at path)
  unfolding join_s
  join_step e r at [] h z = absurd (omega (arith, z))
  join_step e r at (s ∷ path) h z = ring_step e r at s path (lookup r d.opens) h refl (unfold molecule_told numbered in rw h)

  missed_step : (x : Missing) → Stepped p l (molecule_in d) n (Miss x) depth (missed_s d x)
  missed_step missing.EndOfLine = halts (Err answer.EndOfLine) (stops.ends (some (molecule_in d)) n) (missed_told d)
  missed_step (missing.Character at) = halts (Err (answer.Character at)) (wrong (some (molecule_in d)) n at) (wrong_told d at)

  -- the next event, where there is a current atom if one is needed
  pub dot_step : (k : AtomKind) (at : ℕ) → Stepped p l (molecule_in d) n (Enter Dot k at) (depth + 1) (step_s d (Enter Dot k at))
  unfolding step_s enter_s
  dot_step k at = unfailed (Stepped p l (molecule_in d) n (Enter Dot k at) (depth + 1)) (enter_s d Dot k at) (root_step k at)

  pub bond_step : (e : BondKind) (k : AtomKind) (at : ℕ) → 0 < depth → Stepped p l (molecule_in d) n (Enter (Bond e) k at) (depth + 1) (step_s d (Enter (Bond e) k at))
  unfolding step_s enter_s
  bond_step e k at h = unfailed (Stepped p l (molecule_in d) n (Enter (Bond e) k at) (depth + 1)) (enter_s d (Bond e) k at) (extend_step e k at d.path refl (omega (arith, b.level, h)))

  pub number_step : (e : BondKind) (r at : ℕ) → 0 < depth → Stepped p l (molecule_in d) n (Join e r at) depth (step_s d (Join e r at))
  unfolding step_s number_s
  number_step e r at h = unfailed (Stepped p l (molecule_in d) n (Join e r at) depth) (number_s d e r at) (join_step e r at d.path refl (omega (arith, b.level, h)))

  pub pop_step : (i : ℕ) → Stepped p l (molecule_in d) n (Pop i) (depth - i) (step_s d (Pop i))
  unfolding step_s molecule_told atoms_named
  pop_step i =
      passes (pop_passes p l (some (molecule_in d)) n i) refl
      (record { places = b.places; slots = b.slots; going = b.going; sound = b.sound; seen = b.seen; number = b.number; level = length-drop i d.path ∙ ap (λ (t : ℕ). t - i) b.level })

  pub miss_step : (x : Missing) → Stepped p l (molecule_in d) n (Miss x) depth (step_s d (Miss x))
  unfolding step_s
  miss_step x = missed_step x

  pub nest_step : (at : ℕ) → Stepped p l (molecule_in d) n (Nest at) depth (step_s d (Nest at))
  unfolding step_s
  nest_step at = halts (Err (answer.Nesting at)) (deep (some (molecule_in d)) n at) (nest_told d at)

-- ---- after a failed join
pub data Numb (p l n x y : ℕ) (e : ReadEvent) (d : Sketch) : Type 0 where
  halts : (a : Answer) → Meets p l none n e a → Told d a → Numb p l n x y e d
  passes : Passes p l none n e → Broken d (atoms_named n e) x y → Numb p l n x y e d

module _ (p l : ℕ) (d : Sketch) (n x y : ℕ) (b : Broken d n x y) where
  one_more : length d.nodes + (d.unseen + 1) ≡ n + 1
  one_more = let h : length d.nodes + d.unseen ≡ n = unfold next_number in b.number in omega (arith, h)

  failing : (P : Sketch → Type 0) (f : Failure → Sketch) → P (f (Failed x y)) → P (f d.failure)
  failing P f h = subst (λ (g : Failure). P (f g)) (sym b.failed) h

  judged_numb : (e : BondKind) (k : AtomKind) (at : ℕ) (i : std.Option AtomKind) → invert_of k ≡ i → Numb p l n x y (Enter (Bond e) k at) (judged_s d i)
  unfolding judged_s atoms_named
  judged_numb e k at std.None h = halts (Err (answer.Inversion n)) (not_turned_after n e k at (refused_unturnable k h)) (mark_told d (next_number d) n b.number)
  judged_numb e k at (Some j) h = passes (bond_after p l n e k at (turned_turnable k j h)) (record { going = b.going; failed = b.failed; number = unfold next_number in one_more })

  missed_numb : (m : Missing) → Numb p l n x y (Miss m) (missed_s d m)
  missed_numb missing.EndOfLine = halts (Err answer.EndOfLine) (stops.ends none n) (missed_told d)
  missed_numb (missing.Character at) = halts (Err (answer.Character at)) (wrong none n at) (wrong_told d at)

  pub numb_step : (e : ReadEvent) → Numb p l n x y e (step_s d e)
  unfolding step_s enter_s number_s atoms_named
  numb_step (Enter Dot k at) = failing (Numb p l n x y (Enter Dot k at)) (enter_s d Dot k at) (passes (dot_after p l n k at) (record { going = b.going; failed = b.failed; number = unfold next_number in one_more }))
  numb_step (Enter (Bond e) k at) = failing (Numb p l n x y (Enter (Bond e) k at)) (enter_s d (Bond e) k at) (judged_numb e k at (invert_of k) refl)
  numb_step (Join e r at) = failing (Numb p l n x y (Join e r at)) (number_s d e r at) (passes (join_after p l n e r at) b)
  numb_step (Pop i) = passes (pop_passes p l none n i) (record { going = b.going; failed = b.failed; number = unfold next_number in b.number })
  numb_step (Miss m) = missed_numb m
  numb_step (Nest at) = halts (Err (answer.Nesting at)) (deep none n at) (nest_told d at)
