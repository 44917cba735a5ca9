-- A line for an example: all that the law asks of events can be met, and what it says is what is computed. Assumes nothing.
use Prim.Native.Nat.{ℕ}
use mathlib.Core.Path.{◌≡◌, refl, ap, ◌∙◌, sym}
use mathlib.Core.List.{List, [], ◌∷◌}
use lib.Dec.{lit≤}
use Rattle.feature.specs.Text.{bytes}
use Rattle.feature.specs.Names.{names}
use Rattle.feature.specs.Kinds.{in_range}
use Rattle.feature.specs.declared.atom_kind.AtomKind.TheVariants.{Star, Aliphatic, Aromatic}
use Rattle.feature.specs.declared.bond_kind.BondKind.TheVariants.{Elided, Single, Double, Up}
use Rattle.spell.specs.Spell.{name_text, organic_symbols, kind_text, atom_text, bond_text, digits, rnum_text}
use Rattle.survive.specs.Survive.{survives}
use Rattle.survive.proofs.ReadBack.{alone}
use Rattle.read_line.specs.Parse.{parse, line_p, atom_p, found_p, bodies, body_at, body_of, unit_p, unit_by, union_p, union_by, ring_p, led_at, close_p, branch_p, end_p}
use Rattle.read_token.specs.Scan.{peek_at, digit_of, digit_at, sign_kind, mark_width, bond_at, percent_at, rnum_at, aromatic_of, aliphatic_of, optional_at, organic_at, bracket_at, star_at, or_else, other_at, atom_at}
use Rattle.writer.specs.Line.{Event, Root, Extend, Join, Pop, line_of, dot_text, add_piece, on_last, wrapped, pop_pieces, write_event, write_events}
use Rattle.walk_laws.specs.Trek.{AllAccepted}
use Rattle.trip_text.specs.Steps.{retold_one, retold, greatest, deepened, depths_one, depths, depth, Sayable, Spellable}
use Rattle.trip_text.proofs.Retold.{retold_shallow}
use Rattle.read_line.specs.Steps.{unplaced, placeless}

-- a chain with a ring number, a branch in a branch, a ring number of two digits, and a second root
abbrev sample : List Event
sample =
    Root (Aliphatic 1) ∷ Extend Elided (Aliphatic 2) ∷ Join Double 1 ∷ Extend Single (Aromatic 1) ∷ Extend Up (Aliphatic 8) ∷ Pop 1 ∷ Join Elided 7
    ∷ Pop 1 ∷ Extend Elided Star ∷ Join Elided 12 ∷ Root (Aliphatic 7) ∷ []

sample_line : line_of (write_events 8 sample []) ≡ bytes "CN=1(-c(/Br)7)*%12.Cl"
unfolding line_of write_events write_event add_piece dot_text on_last wrapped pop_pieces atom_text kind_text name_text organic_symbols names bond_text rnum_text digits in_range
sample_line = refl

sample_told : Sayable 0 sample
sample_told =
    (lit≤ tt, (lit≤ tt, (lit≤ tt, (lit≤ tt, (lit≤ tt, lit≤ tt, (lit≤ tt, (lit≤ tt, lit≤ tt, (lit≤ tt, (lit≤ tt, tt)))))))))

sample_spelled : Spellable sample
unfolding survives in_range
sample_spelled =
    (alone (Aliphatic 1) refl, (alone (Aliphatic 2) refl, (lit≤ tt, (alone (Aromatic 1) refl, (alone (Aliphatic 8) refl, (lit≤ tt, (alone Star refl, (lit≤ tt, (alone (Aliphatic 7) refl, tt)))))))))

sample_accepted : AllAccepted 8 sample []
unfolding write_event add_piece on_last pop_pieces
sample_accepted =
    (lit≤ tt, (lit≤ tt, (lit≤ tt, (lit≤ tt, (lit≤ tt, (lit≤ tt, (lit≤ tt, (lit≤ tt, (lit≤ tt, (lit≤ tt, (lit≤ tt, tt)))))))))))

sample_depth : depth sample ≡ 2
unfolding depth depths depths_one deepened greatest
sample_depth = refl

sample_read : unplaced (parse (bytes "CN=1(-c(/Br)7)*%12.Cl")) ≡ retold sample
unfolding depth depths depths_one deepened greatest
sample_read =
    ap (λ (s : List ℕ). unplaced (parse s)) (sym sample_line)
    ∙ retold_shallow 8 sample (lit≤ tt) sample_told sample_spelled sample_accepted (lit≤ tt)

-- computed, with no law
sample_computed : unplaced (parse (bytes "CN=1(-c(/Br)7)*%12.Cl")) ≡ retold sample
unfolding parse line_p atom_p found_p bodies body_at body_of unit_p unit_by union_p union_by ring_p led_at close_p branch_p end_p peek_at digit_of digit_at sign_kind mark_width bond_at percent_at rnum_at aromatic_of aliphatic_of optional_at organic_at bracket_at star_at or_else other_at atom_at unplaced placeless retold retold_one
sample_computed = refl
