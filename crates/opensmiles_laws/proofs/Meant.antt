-- WHAT OPENSMILES MEANS BY A CHAIN IS WHAT THE READ CALL LEAVES, unless a limit is exceeded; and the other way. Assumes nothing.
use Prim.Native.Nat.{ℕ, ◌+◌, ◌≤◌}
use mathlib.Core.Path.{◌≡◌, refl, sym, ap, ap₂, ◌∙◌, subst}
use mathlib.Core.Bool.{Bool, true, false}
use mathlib.Core.List.{List, [], ◌∷◌, ◌++◌, append_assoc, append-nil}
use mathlib.Core.Option.{Option, none, some}
use mathlib.Core.Logic.{◌⊎◌, inl, inr}
use native.Mathlib.Omega.{arith}
use lib.Dec.{ltb}
use lib.ListN.{length}
use borrow.Author.Tests.{ltb-true, ltb-false}
use Rattle.feature.proofs.Cases.{impossible}
use Rattle.table.specs.Limits.{text_limit, branch_limit, places_in, bond_slots_in}
use Rattle.read_line.specs.Events.{ReadEvent, Nest}
use Rattle.read_line.specs.Parse.{parse}
use Rattle.builder_meaning.specs.Sketch.{Edge, Node, count_of, first_open_s, sketch_of}
use Rattle.std.specs.Prelude.{Ok}
use Rattle.read.specs.Read.{graph_size}
use Rattle.read.specs.Read.{Answer}
use Rattle.read.specs.declared.ReadError.TheVariants as answer
use Rattle.read.specs.Line.{read_refusing, read_text}
use Rattle.grammar.specs.Grammar.{spell, meaning}
use Rattle.grammar.specs.Lines.{opening, Spelled, Viable, WrongAt, TooDeep, Verdict, reads, refuses, refuses_late, nests, Clean}
use Rattle.grammar.specs.Lines as lines
use Rattle.grammar.specs.OpenSmiles.{Chain, chain_s, says, Small, FitsChain}
use Rattle.grammar.proofs.Reading.{unique, complete, viable_cut}
use Rattle.grammar.proofs.Chains.{chain_ok}
use Rattle.grammar.proofs.Chains as chains
use Rattle.grammar.proofs.NotSmall.{open_read}
use Rattle.grammar.proofs.Spelling.{spelled_bytes, chain_bytes}
use Rattle.grammar.proofs.Verdict.{verdict}
use Rattle.grammar.proofs.Open.{meaning_says, chain_fit, open_says, strict_open}
use Rattle.opensmiles_laws.specs.Molecule.{Molecule, as_held, tell_all, molecule_of, neighbours, Allowed, Meant, HeldFor}
use Rattle.opensmiles_laws.specs.Stops.{Meets, Runs, Stops, begun}
use Rattle.opensmiles_laws.specs.Answers.{DoneAs, done_said, When, MeantIsRead, MeantSaid, done, too_long, too_deep, no_place, no_slot, not_turned, MeantIsAnswered, BigIsRefused, ReadIsMeant}
use Rattle.opensmiles_laws.proofs.Held.{meant_held, held_meant}
use Rattle.opensmiles_laws.proofs.Marks.{stops_marked}
use Rattle.opensmiles_laws.proofs.Room.{roomy_runs, Excess, stopped_excess}
use Rattle.opensmiles_laws.proofs.Room as room
use Rattle.opensmiles_laws.proofs.Trace.{Ran, stopped, ran, broke, text_ran}
use Rattle.opensmiles_laws.proofs.Telling.{told_one}
use Rattle.opensmiles_laws.proofs.Spoken.{Final, deep_spoken}
use Rattle.opensmiles_laws.proofs.Parens.{told_first}
use Rattle.opensmiles_laws.proofs.ReadsAs.{done_by, halts_by, long_line, clash_some, runs_clean}
use Rattle.opensmiles_laws.proofs.Laws.{snoc_init, stops_more, stops_last_or, nest_met, first_deep, clean_final, answered_exactly, done_tables}

-- ---- atoms with the same neighbours are as many, and so are their entries
unfoldable pub head_of : List (List Edge) → List Edge
head_of [] = []
head_of (x ∷ xs) = x

around_same : (ns ms : List Node) → neighbours ns ≡ neighbours ms → (length ns ≡ length ms) × (count_of ns ≡ count_of ms)
unfolding neighbours count_of head_of
around_same [] [] e = (refl, refl)
around_same [] (m ∷ ms) e = impossible cc
around_same (n ∷ ns) [] e = impossible cc
around_same (n ∷ ns) (m ∷ ms) e =
    let g : n.edges ≡ m.edges = ap head_of e in
    let h : neighbours ns ≡ neighbours ms = cc in
    let r = around_same ns ms h in
    (omega (arith, r.0), ap₂ (λ (i j : ℕ). i + j) (ap length g) r.1)

module _ (u : Chain) (meant : List Node) (m : Meant u meant) (la lb : ℕ) where
  held : (x : Molecule) × (molecule_of as_held (says u) ≡ some x) × (first_open_s x.atoms ≡ none) × HeldFor u meant x.atoms
  held = meant_held u meant m

  as_many : (length held.0.atoms ≡ length meant) × (count_of held.0.atoms ≡ count_of meant)
  as_many = around_same held.0.atoms meant held.3.around

  -- what stops it exceeds a limit
  excess : (a : Answer) → Stops (places_in la) (bond_slots_in lb) begun 0 (says u) a → MeantSaid u meant la lb (read_refusing a la lb)
  excess a q = by a q (stopped_excess (places_in la) (bond_slots_in lb) (says u) held.0 held.1 a q)
    where
      by : (a : Answer) → Stops (places_in la) (bond_slots_in lb) begun 0 (says u) a → Excess (places_in la) (bond_slots_in lb) held.0 (says u) a → MeantSaid u meant la lb (read_refusing a la lb)
      by _ q (room.places at h) = no_place at (omega (arith, h, as_many.0))
      by _ q (room.slots at h) = no_slot at (omega (arith, h, as_many.1))
      by _ q (room.marks n) = not_turned n (stops_marked (places_in la) (bond_slots_in lb) begun (says u) n q)

  -- a chain that is read to what it says
  module _ (said-so : parse (chain_s u) ≡ says u) (short : length (chain_s u) ≤ text_limit) where
    made : tell_all as_held begun (parse (chain_s u)) ≡ some held.0
    made = ap (tell_all as_held begun) said-so ∙ (unfold molecule_of in held.1)

    read_so : Runs (places_in la) (bond_slots_in lb) begun 0 (parse (chain_s u)) → read_text (chain_s u) la lb ≡ done_said la lb held.0.atoms
    read_so r = done_by (chain_s u) la lb short held.0 made r held.2

    fitting_said : MeantSaid u meant la lb (read_text (chain_s u) la lb)
    fitting_said = by (text_ran (chain_s u) la lb)
      where
        by : Ran (places_in la) (bond_slots_in lb) begun 0 (parse (chain_s u)) (sketch_of (chain_s u) la lb) → MeantSaid u meant la lb (read_text (chain_s u) la lb)
        by (stopped a q t) =
            subst (MeantSaid u meant la lb) (sym (halts_by (chain_s u) la lb short a q)) (excess a (subst (λ (es : List ReadEvent). Stops (places_in la) (bond_slots_in lb) begun 0 es a) said-so q))
        by (ran r z f v t) = subst (MeantSaid u meant la lb) (sym (read_so r)) (done held.0.atoms held.3)
        by (broke x y r z f g t) = clash_some _ held.0 t made

  -- one with a branch too many: what is told before it the chain tells first
  module _ (small : Small u) (short : length (chain_s u) ≤ text_limit) (n : ℕ) (d : TooDeep (chain_s u) n) (es : List ReadEvent) (i : parse (chain_s u) ≡ es ++ (Nest n ∷ [])) where
    split_so : spell (chains.line_of u) ≡ d.before ++ (opening ∷ d.behind)
    split_so = chain_ok u small ∙ d.is ∙ ap (λ (b : ℕ). d.before ++ (b ∷ d.behind)) d.opens

    first_so : (rest : List ReadEvent) × (says u ≡ es ++ rest)
    first_so =
        let sp = deep_spoken (chain_s u) (chain_bytes u) n d (first_deep (chain_s u) (chain_bytes u) la lb n es i) in
        let f = told_first (chains.line_of u) d.before d.behind split_so in
        let same : f.0 ≡ es = told_one d.before f.0 sp.told f.1 sp.tells ∙ sym (snoc_init es sp.told (Nest n) sp.last (sym i ∙ sp.is)) in
        (f.2.0, sym (meaning_says u small) ∙ f.2.1 ∙ ap (λ (x : List ReadEvent). x ++ f.2.0) same)

    unfit : ¬ FitsChain branch_limit u
    unfit f = d.deep (chains.line_of u) d.behind (chain_ok u small ∙ d.is) (chain_fit u branch_limit f)

    nest_final : Final (Nest n)
    nest_final = unfold Final in tt

    unclean : Runs (places_in la) (bond_slots_in lb) begun 0 (parse (chain_s u)) → ⊥
    unclean r = clean_final es (Nest n) (subst Clean i (runs_clean (places_in la) (bond_slots_in lb) (parse (chain_s u)) begun 0 r)) nest_final

    deep_said : MeantSaid u meant la lb (read_text (chain_s u) la lb)
    deep_said = by (text_ran (chain_s u) la lb)
      where
        which : (a : Answer) → Stops (places_in la) (bond_slots_in lb) begun 0 es a ⊎ ((q : Option Molecule) × (m : ℕ) × Meets (places_in la) (bond_slots_in lb) q m (Nest n) a) → MeantSaid u meant la lb (read_refusing a la lb)
        which a (inl q) = excess a (subst (λ (x : List ReadEvent). Stops (places_in la) (bond_slots_in lb) begun 0 x a) (sym first_so.1) (stops_more (places_in la) (bond_slots_in lb) es first_so.0 begun 0 a q))
        which a (inr q) = subst (λ (x : Answer). MeantSaid u meant la lb (read_refusing x la lb)) (sym (nest_met (places_in la) (bond_slots_in lb) q.0 q.1 n a q.2)) (too_deep n unfit)

        by : Ran (places_in la) (bond_slots_in lb) begun 0 (parse (chain_s u)) (sketch_of (chain_s u) la lb) → MeantSaid u meant la lb (read_text (chain_s u) la lb)
        by (stopped a q t) =
            subst (MeantSaid u meant la lb) (sym (halts_by (chain_s u) la lb short a q))
            (which a (stops_last_or (places_in la) (bond_slots_in lb) es (Nest n) begun 0 a (subst (λ (x : List ReadEvent). Stops (places_in la) (bond_slots_in lb) begun 0 x a) i q)))
        by (ran r z f v t) = absurd (unclean r)
        by (broke x y r z f g t) = absurd (unclean r)

  module _ (small : Small u) where
    spelled_so : Viable (chain_s u)
    unfolding Viable
    spelled_so = (chains.line_of u, [], chain_ok u small ∙ sym (append-nil (chain_s u)))

    unwrong : (n : ℕ) → ¬ WrongAt (chain_s u) n
    unwrong n r = r.dead (viable_cut (r.before ++ (r.byte ∷ [])) r.behind (subst Viable (r.is ∙ sym (append_assoc r.before (r.byte ∷ []) r.behind)) spelled_so))

    within : length (chain_s u) ≤ text_limit → Verdict (chain_s u) (parse (chain_s u)) → MeantSaid u meant la lb (read_text (chain_s u) la lb)
    unfolding Spelled
    within short (reads t e f w) = fitting_said (w ∙ ap meaning (unique t (chains.line_of u) (e ∙ sym (chain_ok u small))) ∙ meaning_says u small) short
    within short (lines.ends es i v unspelled) = absurd (unspelled (chains.line_of u, chain_ok u small))
    within short (refuses n es i r l) = absurd (unwrong n r)
    within short (refuses_late n es r i l) = absurd (unwrong n r)
    within short (nests n es i d) = deep_said small short n d es i

    answered : MeantSaid u meant la lb (read_text (chain_s u) la lb)
    answered = by (ltb text_limit (length (chain_s u))) refl
      where
        by : (t : Bool) → ltb text_limit (length (chain_s u)) ≡ t → MeantSaid u meant la lb (read_text (chain_s u) la lb)
        by true q = let l = ltb-true text_limit (length (chain_s u)) q in subst (MeantSaid u meant la lb) (sym (long_line (chain_s u) la lb l)) (too_long l)
        by false q = within (ltb-false text_limit (length (chain_s u)) q) (verdict (chain_s u) (chain_bytes u))

-- ---- THE LAWS
pub meant_is_read : MeantIsRead
meant_is_read u small fits short meant m la lb places slots marks =
    let h = held u meant m la lb in
    let n = as_many u meant m la lb in
    let e : parse (chain_s u) ≡ says u = open_says u small fits in
    let r : Runs (places_in la) (bond_slots_in lb) begun 0 (says u) = roomy_runs (places_in la) (bond_slots_in lb) (says u) h.0 h.1 (omega (arith, places, n.0)) (omega (arith, slots, n.1)) marks in
    (h.0.atoms, h.3, read_so u meant m la lb e short (subst (Runs (places_in la) (bond_slots_in lb) begun 0) (sym e) r), n.0, n.1)

pub meant_is_answered : MeantIsAnswered
meant_is_answered u small meant m la lb = answered u meant m la lb small

pub big_is_refused : BigIsRefused
big_is_refused u big la lb n m e =
    let w : (ns : List Node) × DoneAs (chain_s u) la lb ns × (n ≡ length ns) × (m ≡ count_of ns) = unfold When in ((answered_exactly (chain_s u) (chain_bytes u) la lb (Ok (graph_size n m))).0 e) in
    let t = w.1.line.tree in
    big (open_read (spell t) u t (sym w.1.line.spelled) (complete t)).0

pub read_is_meant : ReadIsMeant
read_is_meant t strict la lb n m e =
    let w : (ns : List Node) × DoneAs (spell t) la lb ns × (n ≡ length ns) × (m ≡ count_of ns) = unfold When in ((answered_exactly (spell t) (spelled_bytes t) la lb (Ok (graph_size n m))).0 e) in
    let o = strict_open t strict in
    let i : says o.0 ≡ meaning w.1.line.tree = o.3 ∙ ap meaning (unique t w.1.line.tree (sym w.1.line.spelled)) in
    let x = w.1.roomy.whole in
    let k : molecule_of as_held (says o.0) ≡ some x = ap (molecule_of as_held) i ∙ w.1.roomy.is in
    let c : first_open_s x.atoms ≡ none = ap first_open_s w.1.roomy.atoms ∙ w.1.closed in (
      w.0,
      done_tables (spell t) la lb w.0 w.1,
      λ a. (
        o.0,
        o.2,
        subst (λ (ns : List Node). (meant : List Node) × Meant o.0 meant × HeldFor o.0 meant ns) w.1.roomy.atoms
            (held_meant o.0 x k c (subst Allowed (sym w.1.roomy.atoms) a)),
      ),
    )
