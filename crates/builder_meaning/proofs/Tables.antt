-- The tables of a sketch are those that the rows make. Assumes nothing.
use Prim.Native.Nat.{ℕ, zero, suc, ◌+◌, ◌*◌, ◌-◌, ◌<◌, ◌≤◌}
use mathlib.Core.Path.{◌≡◌, refl, ◌∙◌, ap, ap₂, sym}
use mathlib.Core.List.{List, [], ◌∷◌, ◌++◌, append_assoc, append-nil}
use mathlib.Core.Option.{Option, none, some}
use mathlib.Core.Bool.{Bool, true, false}
use native.Mathlib.Omega.{arith}
use lib.ListN.{length, get_or, drop, replicate, length-replicate}
use lib.Seq.{sets, sets-eq}
use lib.Dec.{eqb}
use borrow.Author.Tests.{le-leb, lt-leb}
use Rattle.feature.proofs.Lists.{drop_zeros}
use Rattle.feature.specs.Pick.{pick}
use Rattle.feature.specs.Bonds.{code_of}
use Rattle.feature.specs.declared.atom_kind.AtomKind.{AtomKind}
use Rattle.feature.specs.declared.atom_kind.AtomKind.TheVariants.{Star}
use Rattle.table.specs.Records.{atom_words}
use Rattle.packing.specs.Words.{words_of, list_of}
use Rattle.builder.specs.State.{unclosed}
use Rattle.builder.specs.Build.{of, upto, first_open}
use Rattle.builder.specs.Steps.{degree, Sources}
use Rattle.builder_meaning.specs.Sketch.{Target, To, Open, Edge, Node, edge, open_here, open_in, first_open_s, atom_table, target_of, edge_table, bond_table, padded}
use Rattle.builder_meaning.proofs.Rows.{Row, no_row, edges_of, flat, nodes_of, three_more}

-- ---- an atom's entries
-- their words
of_rows : (rs : List Row) (a : ℕ) → of a (flat rs) ≡ edge_table (edges_of rs a)
unfolding of flat edges_of edge_table
of_rows [] a = refl
of_rows (r ∷ rs) a = split (eqb r.source a) (of_rows rs a) where
  split : (q : Bool) → of a (flat rs) ≡ edge_table (edges_of rs a) → pick q (code_of r.kind ∷ target_of r.target ∷ of a (flat rs)) (of a (flat rs)) ≡ edge_table (pick q (edge r.kind r.target ∷ edges_of rs a) (edges_of rs a))
  split true h = ap (λ (l : List ℕ). code_of r.kind ∷ target_of r.target ∷ l) h
  split false h = h

-- how many there are
pub degree_rows : (rs : List Row) (a : ℕ) → degree a (flat rs) ≡ length (edges_of rs a)
unfolding degree flat edges_of
degree_rows [] a = refl
degree_rows (r ∷ rs) a = split (eqb r.source a) (degree_rows rs a) where
  split : (q : Bool) → degree a (flat rs) ≡ length (edges_of rs a) → pick q (suc (degree a (flat rs))) (degree a (flat rs)) ≡ length (pick q (edge r.kind r.target ∷ edges_of rs a) (edges_of rs a))
  split true h = ap suc h
  split false h = h

pub sources_rows : (rs : List Row) (n : ℕ) → ((p : ℕ) → p < length rs → (get_or rs p no_row).source < n) → Sources n (flat rs)
unfolding flat
sources_rows [] n h = tt
sources_rows (r ∷ rs) n h = (h 0 (omega arith), sources_rows rs n (λ p l. h (suc p) (omega arith)))

-- ---- atom after atom
-- lists one after another
unfoldable row_of : ℕ → (ℕ → List ℕ) → List ℕ
row_of zero f = []
row_of (suc n) f = row_of n f ++ f n

row_of_front : (n : ℕ) (f : ℕ → List ℕ) → row_of (suc n) f ≡ f 0 ++ row_of n (λ i. f (suc i))
unfolding row_of
row_of_front zero f = sym (append-nil (f 0))
row_of_front (suc n) f =
    ap (λ (l : List ℕ). l ++ f (suc n)) (row_of_front n f) ∙ append_assoc (f 0) (row_of n (λ i. f (suc i))) (f (suc n))

upto_rows : (rs : List Row) (n : ℕ) → upto n (flat rs) ≡ row_of n (λ a. edge_table (edges_of rs a))
unfolding upto row_of
upto_rows rs zero = refl
upto_rows rs (suc n) = ap₂ (λ (l m : List ℕ). l ++ m) (upto_rows rs n) (of_rows rs n)

bonds_row : (ks : List AtomKind) (f : ℕ → List Edge) → bond_table (nodes_of ks f) ≡ row_of (length ks) (λ a. edge_table (f a))
unfolding bond_table nodes_of row_of
bonds_row [] f = refl
bonds_row (k ∷ ks) f =
    ap (λ (l : List ℕ). edge_table (f 0) ++ l) (bonds_row ks (λ i. f (suc i))) ∙ sym (row_of_front (length ks) (λ a. edge_table (f a)))

-- the bonds
pub bonds_upto : (ks : List AtomKind) (rs : List Row) → upto (length ks) (flat rs) ≡ bond_table (nodes_of ks (edges_of rs))
bonds_upto ks rs = upto_rows rs (length ks) ∙ sym (bonds_row ks (edges_of rs))

-- a table laid over zeros is that table and zeros
pub laid_padded : (n : ℕ) (t : List ℕ) → length t ≤ n → sets (replicate n 0) 0 t ≡ padded n t
unfolding padded
laid_padded n t h =
    let e : 0 + length t ≡ length t = omega arith in
    let room : 0 + length t ≤ length (replicate {A = ℕ} n 0) = rw (length-replicate {A = ℕ}) (omega arith) in
    sets-eq t (replicate n 0) 0 room
    ∙ ap (λ (l : List ℕ). t ++ l) (ap (λ (i : ℕ). drop i (replicate n 0)) e ∙ drop_zeros (length t) n)

-- ---- atoms
all_zeros : (t : List ℕ) → ((i : ℕ) → get_or t i 0 ≡ 0) → t ≡ replicate (length t) 0
all_zeros [] h = refl
all_zeros (x ∷ t) h = ap₂ (λ (y : ℕ) (l : List ℕ). y ∷ l) (h 0) (all_zeros t (λ i. h (suc i)))

-- a table whose words are those of some atoms, and zeros after them
pub record Words (ks : List AtomKind) (f : ℕ → List Edge) (t : List ℕ) : Type 0 where
  pub long : length ks * atom_words ≤ length t
  pub first : (i : ℕ) → i < length ks → get_or t (i * atom_words) 0 ≡ (words_of (get_or ks i Star)).first
  pub second : (i : ℕ) → i < length ks → get_or t (i * atom_words + 1) 0 ≡ (words_of (get_or ks i Star)).second
  pub third : (i : ℕ) → i < length ks → get_or t (i * atom_words + 2) 0 ≡ length (f i)
  pub past : (i : ℕ) → length ks * atom_words ≤ i → get_or t i 0 ≡ 0

-- what is past the first atom
words_rest : (k : AtomKind) (ks : List AtomKind) (f : ℕ → List Edge) (x y z : ℕ) (t : List ℕ) → Words (k ∷ ks) f (x ∷ y ∷ z ∷ t) → Words ks (λ i. f (suc i)) t
words_rest k ks f x y z t w =
    record {
      long = omega (arith, w.long);
      first = λ i h. sym (three_more x y z (suc i * atom_words) (i * atom_words) t (omega arith)) ∙ w.first (suc i) (omega arith);
      second = λ i h. sym (three_more x y z (suc i * atom_words + 1) (i * atom_words + 1) t (omega arith)) ∙ w.second (suc i) (omega arith);
      third = λ i h. sym (three_more x y z (suc i * atom_words + 2) (i * atom_words + 2) t (omega arith)) ∙ w.third (suc i) (omega arith);
      past = λ i h. sym (three_more x y z (i + 3) i t refl) ∙ w.past (i + 3) (omega arith);
    }

-- is the table of those atoms
pub words_table : (ks : List AtomKind) (f : ℕ → List Edge) (t : List ℕ) → Words ks f t → t ≡ padded (length t) (atom_table (nodes_of ks f))
unfolding padded atom_table nodes_of list_of
words_table [] f t w =
    let e : length t ≡ length t - 0 = omega arith in
    all_zeros t (λ i. w.past i (omega arith)) ∙ ap (λ (n : ℕ). replicate n 0) e
words_table (k ∷ ks) f [] w = absurd (omega (arith, w.long))
words_table (k ∷ ks) f (x ∷ []) w = absurd (omega (arith, w.long))
words_table (k ∷ ks) f (x ∷ y ∷ []) w = absurd (omega (arith, w.long))
words_table (k ∷ ks) f (x ∷ y ∷ z ∷ t) w =
    let ih = words_table ks (λ i. f (suc i)) t (words_rest k ks f x y z t w) in
    let e1 : x ≡ (words_of k).first = w.first 0 (omega arith) in
    let e2 : y ≡ (words_of k).second = w.second 0 (omega arith) in
    let e3 : z ≡ length (f 0) = w.third 0 (omega arith) in
    let size : length t - length (atom_table (nodes_of ks (λ i. f (suc i)))) ≡ suc (suc (suc (length t))) - suc (suc (suc (length (atom_table (nodes_of ks (λ i. f (suc i))))))) = omega arith in
    ap (λ (l : List ℕ). x ∷ y ∷ z ∷ l) ih
    ∙ ap₂ (λ (u v : ℕ). u ∷ v ∷ z ∷ (atom_table (nodes_of ks (λ i. f (suc i))) ++ replicate (length t - length (atom_table (nodes_of ks (λ i. f (suc i))))) 0)) e1 e2
    ∙ ap₂ (λ (u n : ℕ). (words_of k).first ∷ (words_of k).second ∷ u ∷ (atom_table (nodes_of ks (λ i. f (suc i))) ++ replicate n 0)) e3 size

-- ---- the first open entry
-- every closed entry leads to an atom that is no open one's word
unfoldable pub LowEdges : List Edge → Type 0
LowEdges [] = Unit {0}
LowEdges (e ∷ es) = ((x : ℕ) → e.target ≡ To x → x < unclosed) × LowEdges es

unfoldable pub LowNodes : List Node → Type 0
LowNodes [] = Unit {0}
LowNodes (n ∷ ns) = LowEdges n.edges × LowNodes ns

low_edges : (rs : List Row) (a : ℕ) → ((p x : ℕ) → p < length rs → (get_or rs p no_row).target ≡ To x → x < unclosed) → LowEdges (edges_of rs a)
unfolding LowEdges edges_of
low_edges [] a h = tt
low_edges (r ∷ rs) a h = split (eqb r.source a) (low_edges rs a (λ p x l. h (suc p) x (omega arith))) where
  split : (q : Bool) → LowEdges (edges_of rs a) → LowEdges (pick q (edge r.kind r.target ∷ edges_of rs a) (edges_of rs a))
  split true g = (λ x e. h 0 x (omega arith) e, g)
  split false g = g

low_nodes : (ks : List AtomKind) (f : ℕ → List Edge) → ((a : ℕ) → LowEdges (f a)) → LowNodes (nodes_of ks f)
unfolding LowNodes nodes_of
low_nodes [] f h = tt
low_nodes (k ∷ ks) f h = (h 0, low_nodes ks (λ i. f (suc i)) (λ a. h (suc a)))

pub low_rows : (ks : List AtomKind) (rs : List Row) → ((p x : ℕ) → p < length rs → (get_or rs p no_row).target ≡ To x → x < unclosed) → LowNodes (nodes_of ks (edges_of rs))
low_rows ks rs h = low_nodes ks (edges_of rs) (λ a. low_edges rs a h)

-- the word of what is found, 0 for nothing
unfoldable pub open_word : Option ℕ → ℕ
open_word none = 0
open_word (some j) = unclosed + j

found_here : (c : ℕ) (x : Target) (l : List ℕ) (further : Option ℕ) → ((y : ℕ) → x ≡ To y → y < unclosed) → first_open l ≡ open_word further → first_open (c ∷ target_of x ∷ l) ≡ open_word (open_here x further)
unfolding first_open target_of open_here open_word
found_here c (To t) l further low e = rw (lt-leb unclosed t (low t refl)) e
found_here c (Open j) l further low e = rw (le-leb unclosed (unclosed + j) (omega arith))

found_in : (es : List Edge) (l : List ℕ) (further : Option ℕ) → LowEdges es → first_open l ≡ open_word further → first_open (edge_table es ++ l) ≡ open_word (open_in es further)
unfolding edge_table open_in LowEdges
found_in [] l further low e = e
found_in (x ∷ es) l further low e =
    found_here (code_of x.kind) x.target (edge_table es ++ l) (open_in es further) low.0 (found_in es l further low.1 e)

pub found_rows : (ns : List Node) → LowNodes ns → first_open (bond_table ns) ≡ open_word (first_open_s ns)
unfolding bond_table first_open_s LowNodes open_word first_open
found_rows [] low = refl
found_rows (n ∷ ns) low = found_in n.edges (bond_table ns) (first_open_s ns) low.0 (found_rows ns low.1)
