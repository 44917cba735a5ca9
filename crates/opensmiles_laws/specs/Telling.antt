-- WHAT A TEXT TELLS, line or not: the events of the lines that it holds, up to what is wrong with it. No reading here.
use Rattle.std.specs.Prelude.{ℕ, ◌≤◌, ◌≡◌, List, [], ◌∷◌, ◌++◌, length}
use Rattle.feature.specs.Text.{byte}
use Rattle.table.specs.Limits.{branch_limit}
use Rattle.read_token.specs.declared.scanner.Missing.TheVariants.{EndOfLine, Character}
use Rattle.read_line.specs.Events.{ReadEvent}
use Rattle.grammar.specs.Grammar.{Link, link_s, dot, Line, spell, tells, meaning}
use Rattle.grammar.specs.Lines.{Fits, Spelled, Viable, WrongAt, Late, late_missing, TooDeep}

-- A line in the making: a line; or a line with a branch that is not closed, and in it a line in the making.
pub data Making : Type 0 where
  whole : Line → Making
  branching : Line → Link → Making → Making

unfoldable pub making_s : Making → List ℕ
making_s (whole c) = spell c
making_s (branching c l m) = spell c ++ (byte "(" ∷ (link_s l ++ making_s m))

-- What it tells: as a line, but no branch that is open has been left.
unfoldable pub making_e : List ℕ → Link → Making → List ReadEvent
making_e w l (whole c) = tells w l c
making_e w l (branching c k m) = tells w l c ++ making_e (w ++ (spell c ++ (byte "(" ∷ link_s k))) k m

-- What a text has told: what the longest line in the making tells that it begins with; nothing if it begins with none. So "C(=" has
-- told of one atom, and "C(C" of two, and "C[N" of one.
pub data HasTold (p : List ℕ) (es : List ReadEvent) : Type 0 where
  nothing : ((m : Making) (v : List ℕ) → ¬ (p ≡ making_s m ++ v)) → es ≡ [] → HasTold p es
  so_far : (m : Making) (v : List ℕ) → p ≡ making_s m ++ v → ((n : Making) (w : List ℕ) → p ≡ making_s n ++ w → length (making_s n) ≤ length (making_s m)) → es ≡ making_e [] dot m → HasTold p es

-- It goes too deep nowhere.
unfoldable pub Shallow : List ℕ → Type 0
Shallow s = (m : ℕ) → ¬ TooDeep s m

-- Where it goes too deep it does so here or later.
unfoldable pub FirstDeep : List ℕ → ℕ → Type 0
FirstDeep s n = (m : ℕ) → TooDeep s m → n ≤ m

-- All that a text tells: a line within the limit tells its meaning; another text what it has told before the byte that is wrong,
-- before its end, or before the "(" that is too many.
pub data Tells (s : List ℕ) (es : List ReadEvent) : Type 0 where
  a_line : (t : Line) → spell t ≡ s → Fits branch_limit t → es ≡ meaning t → Tells s es
  to_wrong : (n : ℕ) (r : WrongAt s n) → Shallow s → HasTold r.before es → Tells s es
  to_end : Viable s → ¬ Spelled s → Shallow s → HasTold s es → Tells s es
  to_deep : (n : ℕ) (d : TooDeep s n) → FirstDeep s n → HasTold d.before es → Tells s es

-- A character is missing at n, after so much of the text: the text is wrong there; or one byte before, and the place is a late one
-- (departure "late place").
pub data MissesAt (s : List ℕ) (n : ℕ) : List ℕ → Type 0 where
  wrong_here : (r : WrongAt s n) → ¬ Late r → MissesAt s n r.before
  wrong_late : (m : ℕ) (r : WrongAt s m) → Late r → late_missing m r.behind ≡ Character n → MissesAt s n r.before

-- The end came too soon: the whole text can begin a line and is none; or its last byte is wrong, and the place is a late one
-- (departure "late place, at the end").
pub data MissesMore (s : List ℕ) : List ℕ → Type 0 where
  ends_here : Viable s → ¬ Spelled s → MissesMore s s
  ends_late : (m : ℕ) (r : WrongAt s m) → Late r → late_missing m r.behind ≡ EndOfLine → MissesMore s r.before
