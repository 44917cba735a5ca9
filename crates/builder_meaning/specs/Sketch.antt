-- What events make of a graph: a list of atoms, each with its kind and its bond entries in the order in which they came.
--
-- A root is a new atom. An extend is a new atom, its mark toggled where it bears hydrogen, with two entries: the bond at the
-- current atom, and first at the new one its reverse. A ring number's first use opens an entry in place. Its second use
-- reconciles the two kinds, fills that entry and adds one at the closing atom. Where the kinds fail, the first such failure
-- is remembered, the number is free again, the join is counted, and the opening entry stays but is never matched again. A pop
-- beyond the path just empties it.
-- Refusals, in this order: 18 with no current atom, 13 with no room for the atom, 14 with none for its entries, 10 for a mark
-- that can't be toggled. The first stops everything. After a first failed join atoms are only counted and their marks judged.
-- At the end: 3 for the first failed join, else 4 for the first open entry, atoms in order and entries in order, else the
-- tables, with zeros up to the end of what was lent.
use Rattle.std.specs.Prelude.{ℕ, zero, suc, ◌+◌, ◌-◌, ◌/◌, ◌%◌, ◌≡◌, List, [], ◌∷◌, ◌++◌, Bool, false, length, drop, replicate, ltb, leb, eqb}
use Rattle.std.proofs.Math.Option.{Option, none, some}
use Rattle.feature.specs.Pick.{pick, both}
use Rattle.feature.specs.Kinds.{invert_of}
use Rattle.feature.specs.Bonds.{code_of, same_kind, reverse_of, reconcile_of}
use Rattle.feature.specs.declared.atom_kind.AtomKind.{AtomKind}
use Rattle.std.specs.Prelude as std
use Rattle.std.specs.Prelude.{Some}
use Rattle.feature.specs.declared.bond_kind.BondKind.{BondKind}
use Rattle.feature.specs.declared.bond_kind.BondKind.TheVariants.{Elided}
use Rattle.desk_numbers.specs.Numbers.{inversion, atom_room, bond_room, no_atom, end_of_line, character, nesting}
use Rattle.read_token.specs.declared.scanner.Missing.{Missing}
use Rattle.read_token.specs.declared.scanner.Missing.TheVariants.{EndOfLine, Character}
use Rattle.table.specs.Records.{atom_words, bond_words}
use Rattle.packing.specs.Words.{list_of}
use Rattle.table.specs.Limits.{atom_limit, bond_limit, lesser_of}
use Rattle.builder.specs.State.{unclosed}
use Rattle.read_line.specs.declared.lead.Lead.{Lead}
use Rattle.read_line.specs.declared.lead.Lead.TheVariants.{Dot, Bond}
use Rattle.read_line.specs.Events.{ReadEvent, Enter, Join, Pop, Miss, Nest}
use Rattle.read_line.specs.Parse.{parse}
use Rattle.std.specs.Prelude.{Err, Ok}
use Rattle.builder.specs.Build.{Built}
use Rattle.builder.specs.declared.build.BuildError.TheVariants as built

-- ---- a graph in the making
-- where a bond entry leads: to an atom, or nowhere yet, opened by the join of this number
pub data Target : Type 0 where
  To : ℕ → Target
  Open : ℕ → Target

-- a bond entry of an atom
pub record Edge : Type 0 where
  pub kind : BondKind
  pub target : Target

-- an atom with its bond entries
pub record Node : Type 0 where
  pub kind : AtomKind
  pub edges : List Edge

-- an open ring number: the atom that it was opened at, and by which join
pub record Held : Type 0 where
  pub number : ℕ
  pub atom : ℕ
  pub join : ℕ

-- the first failed join: its closing atom, its opening atom
pub data Failure : Type 0 where
  None : Failure
  Failed : ℕ → ℕ → Failure

pub record Sketch : Type 0 where
  pub places : ℕ  -- how many atoms there is room for
  pub slots : ℕ  -- and how many bond entries
  pub nodes : List Node
  pub path : List ℕ  -- the current atom comes first
  pub opens : List Held
  pub joins : ℕ  -- how many there were
  pub failure : Failure
  pub unseen : ℕ  -- atoms after a failure, only counted
  pub refusal : ℕ  -- its number, 0 for none
  pub carried : ℕ

abbrev pub edge : BondKind → Target → Edge
edge k t = record { kind = k; target = t }

abbrev pub node : AtomKind → List Edge → Node
node k es = record { kind = k; edges = es }

abbrev pub held : ℕ → ℕ → ℕ → Held
held n a j = record { number = n; atom = a; join = j }

abbrev pub sketch : ℕ → ℕ → List Node → List ℕ → List Held → ℕ → Failure → ℕ → ℕ → ℕ → Sketch
sketch p l ns at os j f u r c =
    record { places = p; slots = l; nodes = ns; path = at; opens = os; joins = j; failure = f; unseen = u; refusal = r; carried = c }

-- nothing yet, and room for so many atoms and entries
abbrev pub start_s : ℕ → ℕ → Sketch
start_s p l = sketch p l [] [] [] 0 None 0 0 0

-- ---- what changes
-- other atoms and another path
abbrev pub drawn : Sketch → List Node → List ℕ → Sketch
drawn d ns at =
    sketch d.places d.slots ns at d.opens d.joins d.failure d.unseen d.refusal d.carried

-- one join more, with other atoms, open numbers and failure
abbrev pub join_made : Sketch → List Node → List Held → Failure → Sketch
join_made d ns os f =
    sketch d.places d.slots ns d.path os (d.joins + 1) f d.unseen d.refusal d.carried

-- another count of unseen atoms, another refusal and what it carries
abbrev pub noted : Sketch → ℕ → ℕ → ℕ → Sketch
noted d u r c = sketch d.places d.slots d.nodes d.path d.opens d.joins d.failure u r c

abbrev pub refused : Sketch → ℕ → ℕ → Sketch
refused d r c = noted d d.unseen r c

abbrev pub popped : Sketch → ℕ → Sketch
popped d n = drawn d d.nodes (drop n d.path)

-- other atoms, and one more on the path
abbrev pub atom_added : Sketch → List Node → ℕ → Sketch
atom_added d ns a = drawn d ns (a ∷ d.path)

abbrev pub joined : Sketch → List Node → List Held → Sketch
joined d ns os = join_made d ns os d.failure

-- the first failure is the one that is remembered
unfoldable pub first_of : Failure → ℕ → ℕ → Failure
first_of None x y = Failed x y
first_of (Failed v w) x y = Failed v w

-- one join more, which failed
abbrev pub broken : Sketch → List Held → ℕ → ℕ → Sketch
broken d os x y = join_made d d.nodes os (first_of d.failure x y)

-- one atom more, only counted
abbrev pub atom_passed : Sketch → Sketch
atom_passed d = noted d (d.unseen + 1) d.refusal d.carried

-- ---- atoms and entries
-- the number of the next atom
unfoldable pub next_number : Sketch → ℕ
next_number d = length d.nodes + d.unseen

-- how many bond entries there are
unfoldable pub count_of : List Node → ℕ
count_of [] = 0
count_of (n ∷ ns) = length n.edges + count_of ns

-- the atom of a number changed
unfoldable pub upd : ℕ → (Node → Node) → List Node → List Node
upd i f [] = []
upd zero f (n ∷ ns) = f n ∷ ns
upd (suc i) f (n ∷ ns) = n ∷ upd i f ns

-- its entries
unfoldable pub edges_at : ℕ → List Node → List Edge
edges_at i [] = []
edges_at zero (n ∷ ns) = n.edges
edges_at (suc i) (n ∷ ns) = edges_at i ns

-- an entry more
unfoldable pub add_edge : Edge → Node → Node
add_edge e n = node n.kind (n.edges ++ (e ∷ []))

-- whether an entry waits for the join j
unfoldable pub waits : ℕ → Target → Bool
waits j (To t) = false
waits j (Open i) = eqb i j

-- the kind of the entry that waits for j
unfoldable pub open_kind : ℕ → List Edge → BondKind
open_kind j [] = Elided
open_kind j (e ∷ es) = pick (waits j e.target) e.kind (open_kind j es)

-- that entry with the kind k, and closed at the atom t
unfoldable pub fill_edges : ℕ → BondKind → ℕ → List Edge → List Edge
fill_edges j k t [] = []
fill_edges j k t (e ∷ es) = pick (waits j e.target) (edge k (To t) ∷ es) (e ∷ fill_edges j k t es)

unfoldable pub fill : ℕ → BondKind → ℕ → Node → Node
fill j k t n = node n.kind (fill_edges j k t n.edges)

-- ---- open ring numbers
unfoldable pub lookup : ℕ → List Held → Option Held
lookup n [] = none
lookup n (h ∷ hs) = pick (eqb h.number n) (some h) (lookup n hs)

-- the number n is free again
unfoldable pub ring_freed : ℕ → List Held → List Held
ring_freed n [] = []
ring_freed n (h ∷ hs) = pick (eqb h.number n) (ring_freed n hs) (h ∷ ring_freed n hs)

-- ---- the events
-- root: the kind of an atom, and its place in the text
unfoldable pub root_s : Sketch → AtomKind → ℕ → Sketch
root_s d k place =
    pick (leb d.places (next_number d)) (refused d atom_room place)
    (atom_added d (d.nodes ++ (node k [] ∷ [])) (next_number d))

-- a new atom bonded to the atom s, its mark judged
unfoldable pub bonded_s : Sketch → BondKind → ℕ → std.Option AtomKind → Sketch
bonded_s d e s std.None = refused d inversion (next_number d)
bonded_s d e s (Some k) =
    atom_added d
    (upd s (add_edge (edge e (To (next_number d)))) d.nodes ++ (node k (edge (reverse_of e) (To s) ∷ []) ∷ []))
    (next_number d)

-- extend: a new atom bonded to the current one
unfoldable pub extend_s : Sketch → BondKind → AtomKind → ℕ → List ℕ → Sketch
extend_s d e k place [] = refused d no_atom 0
extend_s d e k place (s ∷ rest) =
    pick (leb d.places (next_number d)) (refused d atom_room place)
    (pick (ltb d.slots (count_of d.nodes + 2)) (refused d bond_room place)
    (bonded_s d e s (invert_of k)))

-- a free number opens an entry at the atom s
unfoldable pub opened_s : Sketch → BondKind → ℕ → ℕ → Sketch
opened_s d e n s =
    joined d (upd s (add_edge (edge e (Open d.joins))) d.nodes) (held n s d.joins ∷ d.opens)

-- an open one closes at s
unfoldable pub closed_s : Sketch → ℕ → ℕ → ℕ → Held → std.Option (BondKind × BondKind) → Sketch
closed_s d n place s h std.None = broken d (ring_freed n d.opens) s h.atom
closed_s d n place s h (Some (l, r)) =
    pick (ltb d.slots (count_of d.nodes + 1)) (refused d bond_room place)
    (joined d
    (upd s (add_edge (edge r (To h.atom))) (upd h.atom (fill h.join l s) d.nodes))
    (ring_freed n d.opens))

-- a ring number at s, by whether it is open
unfoldable pub ring_s : Sketch → BondKind → ℕ → ℕ → ℕ → Option Held → Sketch
ring_s d e n place s none =
    pick (ltb d.slots (count_of d.nodes + 1)) (refused d bond_room place) (opened_s d e n s)
ring_s d e n place s (some h) =
    closed_s d n place s h (reconcile_of (open_kind h.join (edges_at h.atom d.nodes)) e)

-- join: a ring number at the current atom
unfoldable pub join_s : Sketch → BondKind → ℕ → ℕ → List ℕ → Sketch
join_s d e n place [] = refused d no_atom 0
join_s d e n place (s ∷ rest) = ring_s d e n place s (lookup n d.opens)

-- ---- the events of a text
-- an atom after a failure
unfoldable pub judged_s : Sketch → std.Option AtomKind → Sketch
judged_s d std.None = refused d inversion (next_number d)
judged_s d (Some k) = atom_passed d

-- an atom, with what leads it in
unfoldable pub enter_s : Sketch → Lead → AtomKind → ℕ → Failure → Sketch
enter_s d Dot k place None = root_s d k place
enter_s d (Bond e) k place None = extend_s d e k place d.path
enter_s d Dot k place (Failed x y) = atom_passed d
enter_s d (Bond e) k place (Failed x y) = judged_s d (invert_of k)

-- a ring number
unfoldable pub number_s : Sketch → BondKind → ℕ → ℕ → Failure → Sketch
number_s d e n place None = join_s d e n place d.path
number_s d e n place (Failed x y) = d

-- something is missing in the text
unfoldable pub missed_s : Sketch → Missing → Sketch
missed_s d EndOfLine = refused d end_of_line 0
missed_s d (Character place) = refused d character place

unfoldable pub step_s : Sketch → ReadEvent → Sketch
step_s d (Enter l k place) = enter_s d l k place d.failure
step_s d (Join e n place) = number_s d e n place d.failure
step_s d (Pop n) = popped d n
step_s d (Miss m) = missed_s d m
step_s d (Nest place) = refused d nesting place

-- the events in order, up to the first refusal
unfoldable pub run_s : Sketch → List ReadEvent → Sketch
run_s d [] = d
run_s d (e ∷ es) = pick (eqb d.refusal 0) (run_s (step_s d e) es) d

-- a text read for tables of la and lb words: three words an atom, two an entry
unfoldable pub sketch_of : List ℕ → ℕ → ℕ → Sketch
sketch_of s la lb =
    run_s (start_s (lesser_of atom_limit (la / atom_words)) (lesser_of bond_limit (lb / bond_words))) (parse s)

-- ---- the end
-- the join that opened an entry, else what is found further on
unfoldable pub open_here : Target → Option ℕ → Option ℕ
open_here (To t) further = further
open_here (Open j) further = some j

unfoldable pub open_in : List Edge → Option ℕ → Option ℕ
open_in [] further = further
open_in (e ∷ es) further = open_here e.target (open_in es further)

-- the join of the first open entry
unfoldable pub first_open_s : List Node → Option ℕ
first_open_s [] = none
first_open_s (n ∷ ns) = open_in n.edges (first_open_s ns)

unfoldable pub rings_say : Option ℕ → Built
rings_say none = Ok tt
rings_say (some j) = Err (built.Rnum j)

unfoldable pub says_s : Failure → List Node → Built
says_s None ns = rings_say (first_open_s ns)
says_s (Failed x y) ns = Err (built.Join x y)

-- what a build says
unfoldable pub finish_s : Sketch → Built
finish_s d = says_s d.failure d.nodes

-- three words an atom: the two of its kind, its number of entries
unfoldable pub atom_table : List Node → List ℕ
atom_table [] = []
atom_table (n ∷ ns) = list_of n.kind ++ (length n.edges ∷ atom_table ns)

-- the word of a target
unfoldable pub target_of : Target → ℕ
target_of (To t) = t
target_of (Open j) = unclosed + j

-- two words an entry: the number of its kind, its target
unfoldable pub edge_table : List Edge → List ℕ
edge_table [] = []
edge_table (e ∷ es) = code_of e.kind ∷ target_of e.target ∷ edge_table es

-- atom after atom
unfoldable pub bond_table : List Node → List ℕ
bond_table [] = []
bond_table (n ∷ ns) = edge_table n.edges ++ bond_table ns

-- with zeros up to a length
unfoldable pub padded : ℕ → List ℕ → List ℕ
padded n t = t ++ replicate (n - length t) 0

-- what a build leaves in a table of n words
unfoldable pub left_s : Built → ℕ → List ℕ → List ℕ
left_s (Ok _) n t = padded n t
left_s (Err (built.Join x y)) n t = replicate n 0
left_s (Err (built.Rnum j)) n t = replicate n 0

-- ---- bonds at both ends
-- whether an entry is a bond of kind k to the atom t
unfoldable pub leads : ℕ → Target → Bool
leads t (To x) = eqb x t
leads t (Open j) = false

unfoldable pub is_edge_to : BondKind → ℕ → Edge → Bool
is_edge_to k t e = both (same_kind e.kind k) (leads t e.target)

-- how many such bonds there are among entries
unfoldable pub bonds_to : BondKind → ℕ → List Edge → ℕ
bonds_to k t [] = 0
bonds_to k t (e ∷ es) = pick (is_edge_to k t e) 1 0 + bonds_to k t es

-- an atom has as many bonds of a kind to another as that one has of the reverse to it, and to itself an even number of each
-- kind that is its own reverse
pub record BothEnds (ns : List Node) : Type 0 where
  pub ends : (a t : ℕ) (k : BondKind) → bonds_to k t (edges_at a ns) ≡ bonds_to (reverse_of k) a (edges_at t ns)
  pub even : (a : ℕ) (k : BondKind) → reverse_of k ≡ k → bonds_to k a (edges_at a ns) % 2 ≡ 0
