-- Each departure of the text by its name, at the smallest line that shows it: a tree that is read and is no OpenSMILES, or a chain
-- of OpenSMILES that is not read. What the read call says to each line is proved above, in opensmiles_laws. Assumes nothing.
use Prim.Native.Nat.{ℕ}
use mathlib.Core.Path.{◌≡◌, refl, sym, ap, ◌∙◌}
use mathlib.Core.Bool.{true, false}
use mathlib.Core.List.{List, [], ◌∷◌, ◌++◌}
use mathlib.Core.Option.{none}
use native.Mathlib.Omega.{arith}
use lib.ListN.{length}
use Rattle.feature.specs.Text.{byte, bytes}
use Rattle.feature.proofs.Cases.{impossible}
use Rattle.read_token.specs.declared.scanner.Missing.TheVariants.{EndOfLine, Character}
use Rattle.read_line.specs.Events.{Miss}
use Rattle.read_line.specs.Parse.{parse}
use Rattle.grammar.specs.Names.{table, lacked_names, has1, has2}
use Rattle.grammar.specs.Grammar.{link, meaning, tells, enter, atom_k, bracket_k, symbol_k, Digit, d0, d1, d2, d3, d6, d9, value, digit_s, organics, bare1, bare2, organic_s, symbol_names, known, short, long, symbol_s, iso0, isotope_s, flat, TB, OH, most, class1, class2, valid2, chiral_s, bald, H, hcount_s, head, head_s, Sign, plus, minus, sign_s, neutral, charge_s, okay1, okay2, nomap, map_s, organic, bracket, atom_s, ring1, rnum_s, bond?s, elided, link_s, Line, start, ring, branch, spell}
use Rattle.grammar.proofs.Verdict.{read_tree}
use Rattle.grammar.proofs.First.{after_line}
use Rattle.grammar.proofs.Late.{late, late_part, eaten_late}
use Rattle.table.specs.Limits.{branch_limit}
use Rattle.grammar.specs.Lines.{Fits, Eaten, Late, Ends, Bytes, WrongAt}
use Rattle.grammar.specs.OpenSmiles.{open_organics, open_names, OpenOrganic, OpenSymbol, uncounted, flat', pair', chiral_s', paired, SmallChiral, bracket', neutral', digit', digits', no_rings, Chain, first, branched, no_branches, digits_s, charge_s', class_s', atom_s', rings_s, chain_s, Small, SmallCharge, SmallAtom, Strict, StrictAtom, NoBranch, Terminator, space, tab, feed, return, terminator_s}
use Rattle.grammar.proofs.Machine.{top, ending, digit_of, bond_of, begins, leads, body_step}
use Rattle.grammar.proofs.Table.{seconds, Free, free}
use Rattle.grammar.proofs.Link.{full, told, told_where, told_around, halt, parse_full}
use Rattle.grammar.proofs.Complete.{after_atom, now, hop, read_line}
use Rattle.grammar.proofs.Reading.{zero_state, stuck_refused}

-- ---- the tables: what the reader has besides OpenSMILES' names, and that it has all of those
pub more_names : lacked_names symbol_names open_names ≡ table "G  Mc Nh Og Ts "
unfolding lacked_names symbol_names known open_names has1 has2
more_names = refl

pub all_names : lacked_names open_names symbol_names ≡ []
unfolding lacked_names symbol_names known open_names has1 has2
all_names = refl

pub more_organics : lacked_names organics open_organics ≡ table "At Ts "
unfolding lacked_names organics open_organics has1 has2
more_organics = refl

pub all_organics : lacked_names open_organics organics ≡ []
unfolding lacked_names organics open_organics has1 has2
all_organics = refl

-- ---- read, and no OpenSMILES

-- "slip"
pub slip : Line
unfolding has1 has2 symbol_names known organics
slip = start (bracket (head iso0 (short (byte "G") tt) flat bald) neutral nomap)

pub slip_spelled : spell slip ≡ bytes "[G]"
unfolding slip spell atom_s organic_s head_s isotope_s symbol_s chiral_s hcount_s charge_s map_s digit_s rnum_s bond?s link_s
slip_spelled = refl

pub slip_loose : ¬ Strict slip
unfolding slip Strict StrictAtom NoBranch OpenOrganic OpenSymbol uncounted has1 has2 open_names open_organics
slip_loose h = h

-- "new elements"
pub new_nh : Line
unfolding has1 has2 symbol_names known organics
new_nh = start (bracket (head iso0 (long (byte "N") (byte "h") tt) flat bald) neutral nomap)

pub new_nh_spelled : spell new_nh ≡ bytes "[Nh]"
unfolding new_nh spell atom_s organic_s head_s isotope_s symbol_s chiral_s hcount_s charge_s map_s digit_s rnum_s bond?s link_s
new_nh_spelled = refl

pub new_nh_loose : ¬ Strict new_nh
unfolding new_nh Strict StrictAtom NoBranch OpenOrganic OpenSymbol uncounted has1 has2 open_names open_organics
new_nh_loose h = h

pub new_mc : Line
unfolding has1 has2 symbol_names known organics
new_mc = start (bracket (head iso0 (long (byte "M") (byte "c") tt) flat bald) neutral nomap)

pub new_mc_spelled : spell new_mc ≡ bytes "[Mc]"
unfolding new_mc spell atom_s organic_s head_s isotope_s symbol_s chiral_s hcount_s charge_s map_s digit_s rnum_s bond?s link_s
new_mc_spelled = refl

pub new_mc_loose : ¬ Strict new_mc
unfolding new_mc Strict StrictAtom NoBranch OpenOrganic OpenSymbol uncounted has1 has2 open_names open_organics
new_mc_loose h = h

pub new_ts : Line
unfolding has1 has2 symbol_names known organics
new_ts = start (bracket (head iso0 (long (byte "T") (byte "s") tt) flat bald) neutral nomap)

pub new_ts_spelled : spell new_ts ≡ bytes "[Ts]"
unfolding new_ts spell atom_s organic_s head_s isotope_s symbol_s chiral_s hcount_s charge_s map_s digit_s rnum_s bond?s link_s
new_ts_spelled = refl

pub new_ts_loose : ¬ Strict new_ts
unfolding new_ts Strict StrictAtom NoBranch OpenOrganic OpenSymbol uncounted has1 has2 open_names open_organics
new_ts_loose h = h

pub new_og : Line
unfolding has1 has2 symbol_names known organics
new_og = start (bracket (head iso0 (long (byte "O") (byte "g") tt) flat bald) neutral nomap)

pub new_og_spelled : spell new_og ≡ bytes "[Og]"
unfolding new_og spell atom_s organic_s head_s isotope_s symbol_s chiral_s hcount_s charge_s map_s digit_s rnum_s bond?s link_s
new_og_spelled = refl

pub new_og_loose : ¬ Strict new_og
unfolding new_og Strict StrictAtom NoBranch OpenOrganic OpenSymbol uncounted has1 has2 open_names open_organics
new_og_loose h = h

-- "bare At, Ts"
pub bare_at : Line
unfolding has1 has2 symbol_names known organics
bare_at = start (organic (bare2 (byte "A") (byte "t") tt))

pub bare_at_spelled : spell bare_at ≡ bytes "At"
unfolding bare_at spell atom_s organic_s head_s isotope_s symbol_s chiral_s hcount_s charge_s map_s digit_s rnum_s bond?s link_s
bare_at_spelled = refl

pub bare_at_loose : ¬ Strict bare_at
unfolding bare_at Strict StrictAtom NoBranch OpenOrganic OpenSymbol uncounted has1 has2 open_names open_organics
bare_at_loose h = h

pub bare_ts : Line
unfolding has1 has2 symbol_names known organics
bare_ts = start (organic (bare2 (byte "T") (byte "s") tt))

pub bare_ts_spelled : spell bare_ts ≡ bytes "Ts"
unfolding bare_ts spell atom_s organic_s head_s isotope_s symbol_s chiral_s hcount_s charge_s map_s digit_s rnum_s bond?s link_s
bare_ts_spelled = refl

pub bare_ts_loose : ¬ Strict bare_ts
unfolding bare_ts Strict StrictAtom NoBranch OpenOrganic OpenSymbol uncounted has1 has2 open_names open_organics
bare_ts_loose h = h

-- "counted hydrogen"
pub counted : Line
unfolding has1 has2 symbol_names known organics
counted = start (bracket (head iso0 (short (byte "H") tt) flat H) neutral nomap)

pub counted_spelled : spell counted ≡ bytes "[HH]"
unfolding counted spell atom_s organic_s head_s isotope_s symbol_s chiral_s hcount_s charge_s map_s digit_s rnum_s bond?s link_s
counted_spelled = refl

pub counted_loose : ¬ Strict counted
unfolding counted Strict StrictAtom NoBranch OpenOrganic OpenSymbol uncounted has1 has2 open_names open_organics
counted_loose h = h

-- "ring after branch"
pub ring_after : Line
unfolding has1 has2 symbol_names known organics
ring_after = ring (branch (start (organic (bare1 (byte "C") tt))) elided (start (organic (bare1 (byte "C") tt)))) none (ring1 d1)

pub ring_after_spelled : spell ring_after ≡ bytes "C(C)1"
unfolding ring_after spell atom_s organic_s head_s isotope_s symbol_s chiral_s hcount_s charge_s map_s digit_s rnum_s bond?s link_s
ring_after_spelled = refl

pub ring_after_loose : ¬ Strict ring_after
unfolding ring_after Strict StrictAtom NoBranch OpenOrganic OpenSymbol uncounted has1 has2 open_names open_organics
ring_after_loose h = h.1

-- ---- OpenSMILES, and not read

-- "charge zero"
pub charge_zero : Sign → Chain
unfolding has1 has2 symbol_names known organics Strict StrictAtom NoBranch OpenOrganic OpenSymbol uncounted open_names open_organics
charge_zero g = first (branched (bracket' [] (short (byte "C") tt) flat' bald tt (digit' g d0) []) no_rings no_branches)

pub charge_zero_spelled : (chain_s (charge_zero plus) ≡ bytes "[C+0]") × (chain_s (charge_zero minus) ≡ bytes "[C-0]")
unfolding charge_zero chain_s atom_s' rings_s digits_s chiral_s' charge_s' class_s' sign_s spell atom_s organic_s head_s isotope_s symbol_s chiral_s hcount_s charge_s map_s digit_s rnum_s bond?s link_s
charge_zero_spelled = (refl, refl)

pub charge_zero_big : (g : Sign) → ¬ Small (charge_zero g)
unfolding charge_zero Small SmallAtom SmallCharge okay1 okay2 value
charge_zero_big g h = h.0.1

-- "charge ten"
pub charge_ten : Sign → Chain
unfolding has1 has2 symbol_names known organics Strict StrictAtom NoBranch OpenOrganic OpenSymbol uncounted open_names open_organics
charge_ten g = first (branched (bracket' [] (short (byte "C") tt) flat' bald tt (digits' g d1 d0) []) no_rings no_branches)

pub charge_ten_spelled : (chain_s (charge_ten plus) ≡ bytes "[C+10]") × (chain_s (charge_ten minus) ≡ bytes "[C-10]")
unfolding charge_ten chain_s atom_s' rings_s digits_s chiral_s' charge_s' class_s' sign_s spell atom_s organic_s head_s isotope_s symbol_s chiral_s hcount_s charge_s map_s digit_s rnum_s bond?s link_s
charge_ten_spelled = (refl, refl)

pub charge_ten_big : (g : Sign) → ¬ Small (charge_ten g)
unfolding charge_ten Small SmallAtom SmallCharge okay1 okay2 value
charge_ten_big g h = h.0.1

-- "charge above fifteen"
pub charge_above : Sign → Chain
unfolding has1 has2 symbol_names known organics Strict StrictAtom NoBranch OpenOrganic OpenSymbol uncounted open_names open_organics
charge_above g = first (branched (bracket' [] (short (byte "C") tt) flat' bald tt (digits' g d1 d6) []) no_rings no_branches)

pub charge_above_spelled : (chain_s (charge_above plus) ≡ bytes "[C+16]") × (chain_s (charge_above minus) ≡ bytes "[C-16]")
unfolding charge_above chain_s atom_s' rings_s digits_s chiral_s' charge_s' class_s' sign_s spell atom_s organic_s head_s isotope_s symbol_s chiral_s hcount_s charge_s map_s digit_s rnum_s bond?s link_s
charge_above_spelled = (refl, refl)

pub charge_above_big : (g : Sign) → ¬ Small (charge_above g)
unfolding charge_above Small SmallAtom SmallCharge okay1 okay2 value
charge_above_big g h = h.0.1

-- "charge with a leading zero"
pub charge_leading : Sign → Digit → Chain
unfolding has1 has2 symbol_names known organics Strict StrictAtom NoBranch OpenOrganic OpenSymbol uncounted open_names open_organics
charge_leading g d = first (branched (bracket' [] (short (byte "C") tt) flat' bald tt (digits' g d0 d) []) no_rings no_branches)

pub charge_leading_spelled : (chain_s (charge_leading plus d1) ≡ bytes "[C+01]") × (chain_s (charge_leading minus d9) ≡ bytes "[C-09]")
unfolding charge_leading chain_s atom_s' rings_s digits_s chiral_s' charge_s' class_s' sign_s spell atom_s organic_s head_s isotope_s symbol_s chiral_s hcount_s charge_s map_s digit_s rnum_s bond?s link_s
charge_leading_spelled = (refl, refl)

pub charge_leading_big : (g : Sign) (d : Digit) → ¬ Small (charge_leading g d)
unfolding charge_leading Small SmallAtom SmallCharge okay1 okay2 value
charge_leading_big g d h = h.0.1

-- "long isotope"
pub long_isotope : Chain
unfolding has1 has2 symbol_names known organics Strict StrictAtom NoBranch OpenOrganic OpenSymbol uncounted open_names open_organics
long_isotope = first (branched (bracket' (d1 ∷ d0 ∷ d0 ∷ d0 ∷ []) (short (byte "C") tt) flat' bald tt neutral' []) no_rings no_branches)

pub long_isotope_spelled : chain_s long_isotope ≡ bytes "[1000C]"
unfolding long_isotope chain_s atom_s' rings_s digits_s chiral_s' charge_s' class_s' sign_s spell atom_s organic_s head_s isotope_s symbol_s chiral_s hcount_s charge_s map_s digit_s rnum_s bond?s link_s
long_isotope_spelled = refl

pub long_isotope_big : ¬ Small long_isotope
unfolding long_isotope Small SmallAtom SmallCharge okay1 okay2 value
long_isotope_big h = absurd (omega (arith, h.0.0))

-- "long map"
pub long_map : Chain
unfolding has1 has2 symbol_names known organics Strict StrictAtom NoBranch OpenOrganic OpenSymbol uncounted open_names open_organics
long_map = first (branched (bracket' [] (short (byte "C") tt) flat' bald tt neutral' (d1 ∷ d0 ∷ d0 ∷ d0 ∷ [])) no_rings no_branches)

pub long_map_spelled : chain_s long_map ≡ bytes "[C:1000]"
unfolding long_map chain_s atom_s' rings_s digits_s chiral_s' charge_s' class_s' sign_s spell atom_s organic_s head_s isotope_s symbol_s chiral_s hcount_s charge_s map_s digit_s rnum_s bond?s link_s
long_map_spelled = refl

pub long_map_big : ¬ Small long_map
unfolding long_map Small SmallAtom SmallCharge okay1 okay2 value
long_map_big h = absurd (omega (arith, h.0.2))

-- "leading zero" and "no arrangement": a template, and two digits as written
pub after_tb : Digit → Digit → Chain
unfolding has1 has2 symbol_names known organics Strict StrictAtom NoBranch OpenOrganic OpenSymbol uncounted open_names open_organics paired
after_tb d e = first (branched (bracket' [] (short (byte "C") tt) (pair' TB tt d e) bald tt neutral' []) no_rings no_branches)

pub after_oh : Digit → Digit → Chain
unfolding has1 has2 symbol_names known organics Strict StrictAtom NoBranch OpenOrganic OpenSymbol uncounted open_names open_organics paired
after_oh d e = first (branched (bracket' [] (short (byte "C") tt) (pair' OH tt d e) bald tt neutral' []) no_rings no_branches)

pub leading_zero_spelled : (chain_s (after_tb d0 d1) ≡ bytes "[C@TB01]") × (chain_s (after_oh d0 d1) ≡ bytes "[C@OH01]")
unfolding after_tb after_oh chain_s atom_s' rings_s digits_s chiral_s' charge_s' class_s' class1 class2 symbol_s hcount_s digit_s
leading_zero_spelled = (refl, refl)

pub leading_zero_big : (d : Digit) → ¬ Small (after_tb d0 d) × (¬ Small (after_oh d0 d))
unfolding after_tb after_oh Small SmallAtom SmallChiral valid2 value
leading_zero_big d = (λ h. h.0.3, λ h. h.0.3)

pub unarranged_spelled : (chain_s (after_tb d0 d0) ≡ bytes "[C@TB00]") × (chain_s (after_tb d2 d1) ≡ bytes "[C@TB21]") × (chain_s (after_oh d3 d1) ≡ bytes "[C@OH31]")
unfolding after_tb after_oh chain_s atom_s' rings_s digits_s chiral_s' charge_s' class_s' class1 class2 symbol_s hcount_s digit_s
unarranged_spelled = (refl, refl, refl)

pub unarranged_big : ¬ Small (after_tb d0 d0) × (¬ Small (after_tb d2 d1)) × (¬ Small (after_oh d3 d1))
unfolding after_tb after_oh Small SmallAtom SmallChiral valid2 value most
unarranged_big = (λ h. h.0.3, λ h. h.0.3, λ h. h.0.3)

-- "empty line": an empty chain is the end of the line
pub empty_line : parse [] ≡ Miss EndOfLine ∷ []
unfolding Bytes full told told_where told_around ending halt
empty_line = parse_full [] tt

-- "terminator": a blank, a tab or a line end after a line is wrong at its own place
blank_free : (x : Terminator) → Free (terminator_s x)
unfolding terminator_s seconds organics
blank_free space = free (byte " ") refl
blank_free tab = free 9 refl
blank_free feed = free 10 refl
blank_free return = free 13 refl

blank_ends : (t : Line) (x : Terminator) → body_step top t (terminator_s x) ≡ none
unfolding terminator_s body_step digit_of bond_of begins leads organics
blank_ends t space = refl
blank_ends t tab = refl
blank_ends t feed = refl
blank_ends t return = refl

pub terminator : (t : Line) (x : Terminator) (behind : List ℕ) → WrongAt (spell t ++ (terminator_s x ∷ behind)) (length (spell t))
unfolding zero_state
terminator t x behind = stuck_refused (spell t) (terminator_s x) behind (now top t) (read_line t top) (hop top t (terminator_s x) (blank_free x) ∙ blank_ends t x)

-- so a line within the limit is refused there
now_timely : (t : Line) → late (now top t) ≡ false
unfolding now late late_part after_atom
now_timely (start (organic (bare1 a p))) = refl
now_timely (start (organic (bare2 a b p))) = refl
now_timely (start (bracket x q m)) = refl
now_timely (link c l (organic (bare1 a p))) = refl
now_timely (link c l (organic (bare2 a b p))) = refl
now_timely (link c l (bracket x q m)) = refl
now_timely (ring c x r) = refl
now_timely (branch c l d) = refl

timely : (t : Line) → ¬ Eaten (spell t)
unfolding zero_state
timely t h = let e : late (now top t) ≡ true = eaten_late (spell t) (now top t) (read_line t top) h in let f : late (now top t) ≡ false = now_timely t in impossible cc

pub terminator_told : (t : Line) (x : Terminator) (behind : List ℕ) → Fits branch_limit t → Bytes (spell t ++ (terminator_s x ∷ behind))
    → Ends (parse (spell t ++ (terminator_s x ∷ behind))) (Miss (Character (length (spell t))))
unfolding terminator stuck_refused Late
terminator_told t x behind f h = after_line t (terminator_s x) behind h f (terminator t x behind) (λ l. timely t l.0)

-- ---- read otherwise than meant
-- "slip": as fluorine
pub fluorine : Line
unfolding has1 symbol_names known
fluorine = start (bracket (head iso0 (short (byte "F") tt) flat bald) neutral nomap)

pub fluorine_spelled : spell fluorine ≡ bytes "[F]"
unfolding fluorine spell atom_s head_s isotope_s symbol_s chiral_s hcount_s charge_s map_s
fluorine_spelled = refl

pub slip_says : meaning slip ≡ meaning fluorine
unfolding slip fluorine meaning tells enter atom_k bracket_k symbol_k
slip_says = refl

one_atom : Fits branch_limit slip × Fits branch_limit fluorine
unfolding slip fluorine Fits
one_atom = (tt, tt)

pub slip_read : parse (bytes "[G]") ≡ parse (bytes "[F]")
slip_read =
    ap parse (sym slip_spelled) ∙ read_tree slip one_atom.0 ∙ slip_says ∙ sym (read_tree fluorine one_atom.1) ∙ ap parse fluorine_spelled

-- "joined to itself" and "joined twice": OpenSMILES' rules for ring numbers are no rules of its grammar, and the reader has
-- none of them
pub self_join : Line
unfolding has1 organics
self_join = ring (ring (start (organic (bare1 (byte "C") tt))) none (ring1 d1)) none (ring1 d1)

pub self_join_spelled : spell self_join ≡ bytes "C11"
unfolding self_join spell atom_s organic_s digit_s rnum_s bond?s
self_join_spelled = refl

pub self_join_strict : Strict self_join
unfolding self_join Strict StrictAtom NoBranch OpenOrganic has1 open_organics
self_join_strict = ((tt, tt), tt)

pub twice_joined : Line
unfolding has1 organics
twice_joined = ring (link (ring (start (organic (bare1 (byte "C") tt))) none (ring1 d1)) elided (organic (bare1 (byte "C") tt))) none (ring1 d1)

pub twice_joined_spelled : spell twice_joined ≡ bytes "C1C1"
unfolding twice_joined spell atom_s organic_s digit_s rnum_s bond?s link_s
twice_joined_spelled = refl

pub twice_joined_strict : Strict twice_joined
unfolding twice_joined Strict StrictAtom NoBranch OpenOrganic has1 open_organics
twice_joined_strict = (((tt, tt), tt), tt)
