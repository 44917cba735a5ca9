-- The line that a writer makes of events, and the line that it makes of the same events with a star for each atom, are read alike.
-- Assumes nothing.
use Prim.Native.Nat.{ℕ, zero, suc, ◌+◌, ◌-◌, ◌≤◌, ◌<◌}
use mathlib.Core.Path.{◌≡◌, refl, ◌∙◌, ap, sym, subst}
use mathlib.Core.List.{List, [], ◌∷◌, ◌++◌, map, append_assoc, append-nil}
use mathlib.Core.Bool.{true}
use native.Mathlib.Omega.{arith}
use lib.ListN.{length, take, drop}
use borrow.Author.Tests.{lt-leb, lt-ltb, le-ltb}
use Rattle.feature.specs.Text.{byte, bytes}
use Rattle.feature.specs.Kinds.{in_range}
use Rattle.feature.specs.declared.atom_kind.AtomKind.{AtomKind}
use Rattle.feature.specs.declared.atom_kind.AtomKind.TheVariants.{Star}
use Rattle.spell.specs.Spell.{atom_text, bond_text}
use Rattle.table.specs.Limits.{branch_limit}
use Rattle.read_line.specs.declared.lead.Lead.TheVariants.{Dot}
use Rattle.read_line.specs.Parse.{end_p, parse}
use Rattle.writer.specs.Line.{Event, Root, Extend, Join, Pop, line_of, dot_text, on_last, wrapped, pop_pieces, write_event, write_events}
use Rattle.writer.proofs.Pieces.{piece_added}
use Rattle.walk_laws.specs.Trek.{AllAccepted}
use Rattle.trip_text.specs.Steps.{Sayable}
use Rattle.trip_text.proofs.Stands.{Stands, whole, after}
use Rattle.trip_text.proofs.Heads.{plain_long}
use Rattle.trip_text.proofs.Bodies.{start_read}
use Rattle.trip_text.proofs.Held.{root_dot}
use Rattle.trip_text.proofs.Starred.{Sub, none, single, dot, ring, branch, close, Alike, alike, lost, miss, Follows, bodies_alike, start_steps, atoms_alike, left_follows, right_follows, star_survives, star_plain, ranged_plain}

-- ---- events
-- with a star for each atom
unfoldable pub bare_said : Event → Event
bare_said (Root k) = Root Star
bare_said (Extend b k) = Extend b Star
bare_said (Join b r) = Join b r
bare_said (Pop d) = Pop d

-- atoms in range, and ring numbers that have a text
abbrev pub Ranged : List Event → Type 0
Ranged [] = Unit {0}
Ranged (Root k ∷ es) = (in_range k ≡ true) × Ranged es
Ranged (Extend b k ∷ es) = (in_range k ≡ true) × Ranged es
Ranged (Join b r ∷ es) = (r ≤ 99) × Ranged es
Ranged (Pop d ∷ es) = Ranged es

-- ---- pieces
-- anywhere but at a line's start; first in a branch; first in a line
record Piece (p q : List ℕ) : Type 0 where
  to : (t u : List ℕ) → Sub t u → Sub (p ++ t) (q ++ u)

record Opened (p q : List ℕ) : Type 0 where
  to : (t u : List ℕ) → Sub t u → Sub (byte "(" ∷ (p ++ t)) (byte "(" ∷ (q ++ u))

record Start (p q : List ℕ) : Type 0 where
  kind : AtomKind
  ok : in_range kind ≡ true
  left : List ℕ
  right : List ℕ
  first : p ≡ atom_text Star ++ left
  second : q ≡ atom_text kind ++ right
  rest : Piece left right

piece_app : (p q p' q' : List ℕ) → Piece p q → Piece p' q' → Piece (p ++ p') (q ++ q')
piece_app p q p' q' a b =
    record { to = λ t u x. rw (append_assoc p p' t, append_assoc q q' u) (a.to (p' ++ t) (q' ++ u) (b.to t u x)) }

opened_app : (p q p' q' : List ℕ) → Opened p q → Piece p' q' → Opened (p ++ p') (q ++ q')
opened_app p q p' q' a b =
    record { to = λ t u x. rw (append_assoc p p' t, append_assoc q q' u) (a.to (p' ++ t) (q' ++ u) (b.to t u x)) }

start_app : (p q p' q' : List ℕ) → Start p q → Piece p' q' → Start (p ++ p') (q ++ q')
start_app p q p' q' a b =
    record {
      kind = a.kind;
      ok = a.ok;
      left = a.left ++ p';
      right = a.right ++ q';
      first = ap (λ (x : List ℕ). x ++ p') a.first ∙ append_assoc (atom_text Star) a.left p';
      second = ap (λ (x : List ℕ). x ++ q') a.second ∙ append_assoc (atom_text a.kind) a.right q';
      rest = piece_app a.left a.right p' q' a.rest b;
    }

empty_piece : Piece [] []
empty_piece = record { to = λ t u x. x }

wrapped_piece : (p q : List ℕ) → Opened p q → Piece (wrapped p) (wrapped q)
unfolding wrapped
wrapped_piece p q o =
    record { to = λ t u x. rw (append_assoc p (bytes ")") t, append_assoc q (bytes ")") u) (o.to (byte ")" ∷ t) (byte ")" ∷ u) (close x)) }

-- the pieces that writers of both hold, and how many of them there are since the last root
data Pieces : List (List ℕ) → List (List ℕ) → ℕ → Type 0 where
  begun : {p q : List ℕ} → Start p q → Pieces (p ∷ []) (q ∷ []) 1
  again : {d : ℕ} {x y p q : List ℕ} {ps qs : List (List ℕ)} → Pieces (x ∷ ps) (y ∷ qs) d → Piece p q → Pieces (p ∷ (x ∷ ps)) (q ∷ (y ∷ qs)) 1
  more : {d : ℕ} {p q : List ℕ} {ps qs : List (List ℕ)} → Pieces ps qs (suc d) → Piece p q → Opened p q → Pieces (p ∷ ps) (q ∷ qs) (suc (suc d))

pieces_long : {ps qs : List (List ℕ)} {d : ℕ} → Pieces ps qs d → d ≤ length ps
pieces_long (begun a) = omega arith
pieces_long (again h a) = omega arith
pieces_long (more h a b) = omega (arith, pieces_long h)

pieces_same : {ps qs : List (List ℕ)} {d : ℕ} → Pieces ps qs d → length ps ≡ length qs
pieces_same (begun a) = refl
pieces_same (again h a) = ap suc (pieces_same h)
pieces_same (more h a b) = ap suc (pieces_same h)

-- a text laid onto the last one
pieces_onto : {ps qs : List (List ℕ)} {d : ℕ} (p q : List ℕ) → Pieces ps qs d → Piece p q → Pieces (on_last p ps) (on_last q qs) d
unfolding on_last
pieces_onto p q (begun a) t = begun (start_app _ _ p q a t)
pieces_onto p q (again h a) t = again h (piece_app _ _ p q a t)
pieces_onto p q (more h a b) t = more h (piece_app _ _ p q a t) (opened_app _ _ p q b t)

-- the last pieces apart from those before
record Parted (e : ℕ) (ps qs : List (List ℕ)) (d : ℕ) : Type 0 where
  rest : Pieces (drop e ps) (drop e qs) d
  line : Opened (line_of (take e ps)) (line_of (take e qs))

part : (e : ℕ) {ps qs : List (List ℕ)} (d c : ℕ) → Pieces ps qs c → c ≡ suc e + suc d → Parted (suc e) ps qs (suc d)
unfolding line_of
part e d c (begun a) g = absurd (omega arith)
part e d c (again h a) g = absurd (omega arith)
part zero d c (more {d = x} h a b) g =
    let k : x ≡ d = omega arith in
    record { rest = rw (← k) h; line = b }
part (suc e) d c (more {d = x} h a b) g =
    let r = part e d (suc x) h (omega arith) in
    record { rest = r.rest; line = opened_app _ _ _ _ r.line a }

-- ---- events
pieces_pop : (e : ℕ) {ps qs : List (List ℕ)} (d c : ℕ) → Pieces ps qs c → c ≡ suc e + suc d → Pieces (pop_pieces (suc e) ps) (pop_pieces (suc e) qs) (suc d)
unfolding pop_pieces
pieces_pop e {ps} {qs} d c h g =
    let r = part e d c h g in
    let l = pieces_long h in
    let s = pieces_same h in
    rw (lt-leb (length ps) (suc e) (omega arith), lt-leb (length qs) (suc e) (omega arith))
    (pieces_onto _ _ r.rest (wrapped_piece _ _ r.line))

pieces_root : (k : AtomKind) → in_range k ≡ true → {ps qs : List (List ℕ)} {d : ℕ} → Pieces ps qs d
    → Pieces ((dot_text (length ps) ++ atom_text Star) ∷ ps) ((dot_text (length qs) ++ atom_text k) ∷ qs) 1
pieces_root k ok (begun a) = rw (root_dot 0) (again (begun a) (record { to = λ t u x. dot k ok x }))
pieces_root k ok (again {ps = ps} {qs = qs} h a) =
    rw (root_dot (suc (length ps)), root_dot (suc (length qs))) (again (again h a) (record { to = λ t u x. dot k ok x }))
pieces_root k ok (more {ps = ps} {qs = qs} h a b) =
    rw (root_dot (length ps), root_dot (length qs)) (again (more h a b) (record { to = λ t u x. dot k ok x }))

record Some (ps qs : List (List ℕ)) : Type 0 where
  since : ℕ
  held : Pieces ps qs since

some_as : (most : ℕ) (es : List Event) {x x' y y' : List (List ℕ)} → x ≡ x' → y ≡ y' → Some (write_events most (map bare_said es) x') (write_events most es y')
    → Some (write_events most (map bare_said es) x) (write_events most es y)
some_as most es {x} {x'} {y} {y'} e f h =
    subst (λ (z : List (List ℕ)). Some (write_events most (map bare_said es) z) (write_events most es y)) (sym e)
    (subst (λ (z : List (List ℕ)). Some (write_events most (map bare_said es) x') (write_events most es z)) (sym f) h)

accepted_as : (most : ℕ) (es : List Event) {x y : List (List ℕ)} → x ≡ y → AllAccepted most es x → AllAccepted most es y
accepted_as most es e h = subst (λ (z : List (List ℕ)). AllAccepted most es z) e h

pieces_all : (most : ℕ) (es : List Event) {ps qs : List (List ℕ)} (d : ℕ) → Pieces ps qs d → Sayable d es → Ranged es → AllAccepted most es qs
    → Some (write_events most (map bare_said es) ps) (write_events most es qs)
unfolding write_events write_event bare_said
pieces_all most [] d h t s a = record { since = d; held = h }
pieces_all most (Root k ∷ es) {ps} {qs} d h t s a =
    let e = piece_added most (dot_text (length ps) ++ atom_text Star) ps (omega (arith, a.0, pieces_same h)) in
    let f = piece_added most (dot_text (length qs) ++ atom_text k) qs a.0 in
    some_as most es e f (pieces_all most es 1 (pieces_root k s.0 h) t s.1 (accepted_as most es f a.1))
pieces_all most (Extend b k ∷ es) {ps} {qs} zero h t s a = absurd (omega arith)
pieces_all most (Extend b k ∷ es) {ps} {qs} (suc d) h t s a =
    let e = piece_added most (bond_text b ++ atom_text Star) ps (omega (arith, a.0, pieces_same h)) in
    let f = piece_added most (bond_text b ++ atom_text k) qs a.0 in
    let n : suc d + 1 ≡ suc (suc d) = omega arith in
    some_as most es e f
    (pieces_all most es (suc (suc d)) (more h (record { to = λ t u x. single b k s.0 x }) (record { to = λ t u x. branch b k s.0 x })) (rw n at t.1) s.1 (accepted_as most es f a.1))
pieces_all most (Join b r ∷ es) {ps} {qs} d h t s a =
    pieces_all most es d (pieces_onto _ _ h (record { to = λ t u x. ring b r s.0 x })) t.1 s.1 a.1
pieces_all most (Pop zero ∷ es) d h t s a = absurd (omega arith)
pieces_all most (Pop (suc e) ∷ es) d h t s a =
    let n : d - suc e ≡ suc (d - suc e - 1) = omega arith in
    pieces_all most es (suc (d - suc e - 1)) (pieces_pop e (d - suc e - 1) d h (omega arith)) (rw n at t.2) s a.1

pieces_line : {ps qs : List (List ℕ)} {d : ℕ} → Pieces ps qs d → Start (line_of ps) (line_of qs)
unfolding line_of
pieces_line (begun a) = a
pieces_line (again h a) = start_app _ _ _ _ (pieces_line h) a
pieces_line (more h a b) = start_app _ _ _ _ (pieces_line h) a

-- ---- the line
end_follows : (a b : List ℕ) (i j : ℕ) → Follows a b i j (end_p a) (end_p b)
unfolding end_p
end_follows a b i j =
    record {
      ended = λ at to n p q h k. rw (le-ltb at (length a) (omega (arith, h.ends)), le-ltb to (length b) (omega (arith, k.ends))) (alike refl);
      closed = λ at to n t u p q x h k. rw (lt-ltb to (length b) (omega (arith, k.ends))) (lost (miss _));
    }

line_alike : (a b : List ℕ) → Start a b → Alike (parse a) (parse b)
unfolding parse
line_alike a b s =
    let x : Sub s.left s.right = rw (append-nil s.left, append-nil s.right) at (s.rest.to [] [] none) in
    let h : Stands a 0 (atom_text Star ++ s.left) = rw (← s.first) (whole a) in
    let k : Stands b 0 (atom_text s.kind ++ s.right) = rw (← s.second) (whole b) in
    let p = plain_long star_plain in
    let q = plain_long (ranged_plain s.kind s.ok) in
    atoms_alike Dot _ (start_read (length a + 1) a branch_limit 0 (end_p a) s.left Star star_survives (left_follows x) h)
    (start_steps (length b + 1) b branch_limit 0 0 (end_p b) s.right s.kind s.ok (right_follows x) k)
    (bodies_alike a b (length a + 1) (length b + 1) branch_limit _ _ (0 + 1) (end_p a) (end_p b) s.left s.right x (after (atom_text Star) s.left h) (after (atom_text s.kind) s.right k) (omega arith) (omega arith)
    (end_follows a b _ _))

-- Events, at least one, that a line can say in their order, whose atoms are in range and whose ring numbers have a text, all taken by a
-- writer that held no piece: their line is read like that of stars.
pub starred_alike : (most : ℕ) (es : List Event) → 0 < length es → Sayable 0 es → Ranged es → AllAccepted most es []
    → Alike (parse (line_of (write_events most (map bare_said es) []))) (parse (line_of (write_events most es [])))
unfolding write_events write_event dot_text bare_said
starred_alike most [] l t s a = absurd (omega arith)
starred_alike most (Root k ∷ es) l t s a =
    let e = piece_added most (atom_text Star) [] a.0 in
    let f = piece_added most (atom_text k) [] a.0 in
    let b = begun (record { kind = k; ok = s.0; left = []; right = []; first = sym (append-nil (atom_text Star)); second = sym (append-nil (atom_text k)); rest = empty_piece }) in
    let h = some_as most es e f (pieces_all most es 1 b t s.1 (accepted_as most es f a.1)) in
    line_alike _ _ (pieces_line h.held)
starred_alike most (Extend b k ∷ es) l t s a = absurd (omega arith)
starred_alike most (Join b r ∷ es) l t s a = absurd (omega arith)
starred_alike most (Pop d ∷ es) l t s a = absurd (omega arith)
