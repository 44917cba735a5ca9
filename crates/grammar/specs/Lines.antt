-- What the laws of reading speak of: texts of bytes, texts that a tree spells or begins, where a text is wrong or goes too deep; and
-- last, for the inner laws, what the reader's events then are. What the read call answers is said in opensmiles_laws.
use Rattle.std.specs.Prelude.{ℕ, ◌+◌, ◌-◌, ◌<◌, ◌≤◌, ◌≡◌, List, [], ◌∷◌, ◌++◌, length}
use Rattle.feature.specs.Text.{byte, bytes}
use Rattle.read_token.specs.declared.scanner.Missing.{Missing}
use Rattle.read_token.specs.declared.scanner.Missing.TheVariants.{EndOfLine, Character}
use Rattle.table.specs.Limits.{branch_limit}
use Rattle.read_line.specs.Events.{ReadEvent, Enter, Join, Pop, Miss, Nest}
use Rattle.read_line.specs.Parse.{parse}
use Rattle.grammar.specs.Grammar.{Line, start, link, ring, branch, spell, meaning}

-- A text of bytes.
unfoldable pub Bytes : List ℕ → Type 0
Bytes [] = Unit {0}
Bytes (b ∷ bs) = (b < 256) × Bytes bs

-- At most so many of a tree's branches are open at once.
unfoldable pub Fits : ℕ → Line → Type 0
Fits room (start a) = Unit {0}
Fits room (link c l a) = Fits room c
Fits room (ring c b r) = Fits room c
Fits room (branch c l d) = Fits room c × (1 ≤ room) × Fits (room - 1) d

-- A text is a line: some tree is spelled so.
unfoldable pub Spelled : List ℕ → Type 0
Spelled s = (t : Line) × (spell t ≡ s)

-- A text can begin a line: some tree's spelling begins so.
unfoldable pub Viable : List ℕ → Type 0
Viable p = (t : Line) × (w : List ℕ) × (spell t ≡ p ++ w)

-- A text is wrong at a place: the bytes before it can begin a line, and with the byte there they can't.
pub record WrongAt (s : List ℕ) (n : ℕ) : Type 0 where
  pub before : List ℕ
  pub byte : ℕ
  pub behind : List ℕ
  pub is : s ≡ before ++ (byte ∷ behind)
  pub place : length before ≡ n
  pub alive : Viable before
  pub dead : ¬ Viable (before ++ (byte ∷ []))

-- The departure "late place": after "@TB" and "@OH" an ASCII byte is taken before it is judged.
pub data Eaten (p : List ℕ) : Type 0 where
  after_tb : (u : List ℕ) → p ≡ u ++ bytes "@TB" → Eaten p
  after_oh : (u : List ℕ) → p ≡ u ++ bytes "@OH" → Eaten p

unfoldable pub Late : {s : List ℕ} {n : ℕ} → WrongAt s n → Type 0
Late r = Eaten r.before × (r.byte < 128)

-- so the place is one late, and the end of the line if the byte is the last
unfoldable pub late_missing : ℕ → List ℕ → Missing
late_missing n [] = EndOfLine
late_missing n (b ∷ bs) = Character (n + 1)

abbrev pub opening : ℕ
opening = byte "("

-- A text goes too deep at a place: with the "(" there it can begin a line, but none within the limit.
pub record TooDeep (s : List ℕ) (n : ℕ) : Type 0 where
  pub before : List ℕ
  pub byte : ℕ
  pub behind : List ℕ
  pub is : s ≡ before ++ (byte ∷ behind)
  pub place : length before ≡ n
  pub opens : byte ≡ opening
  pub alive : Viable (before ++ (byte ∷ []))
  pub deep : (t : Line) (w : List ℕ) → spell t ≡ before ++ (byte ∷ w) → ¬ Fits branch_limit t

-- What a text's events are, by what the text is: a tree's meaning, or some events and one refusal.
pub data Verdict (s : List ℕ) (es : List ReadEvent) : Type 0 where
  reads : (t : Line) → spell t ≡ s → Fits branch_limit t → es ≡ meaning t → Verdict s es
  ends : (told : List ReadEvent) → es ≡ told ++ (Miss EndOfLine ∷ []) → Viable s → ¬ Spelled s → Verdict s es
  refuses : (n : ℕ) (told : List ReadEvent) → es ≡ told ++ (Miss (Character n) ∷ []) → (r : WrongAt s n) → ¬ Late r → Verdict s es
  refuses_late : (n : ℕ) (told : List ReadEvent) (r : WrongAt s n) → es ≡ told ++ (Miss (late_missing n r.behind) ∷ []) → Late r → Verdict s es
  nests : (n : ℕ) (told : List ReadEvent) → es ≡ told ++ (Nest n ∷ []) → TooDeep s n → Verdict s es

-- Events without a refusal.
unfoldable pub Clean : List ReadEvent → Type 0
Clean [] = Unit {0}
Clean (Enter l k n ∷ es) = Clean es
Clean (Join k r n ∷ es) = Clean es
Clean (Pop n ∷ es) = Clean es
Clean (Miss m ∷ es) = ⊥
Clean (Nest n ∷ es) = ⊥

-- Events that end so.
unfoldable pub Ends : List ReadEvent → ReadEvent → Type 0
Ends es x = (told : List ReadEvent) × (es ≡ told ++ (x ∷ []))

-- A text that goes too deep before anything else is wrong with it, and is refused for that.
unfoldable pub Nests : List ℕ → Type 0
Nests s = (m : ℕ) × TooDeep s m × Ends (parse s) (Nest m)
