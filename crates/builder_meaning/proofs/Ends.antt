-- Whatever the events, every bond is held at both ends as reverses. Assumes nothing.
use Prim.Native.Nat.{ℕ, ◌*◌, ◌≤◌}
use mathlib.Core.Path.{sym, subst}
use mathlib.Core.List.{List}
use native.Mathlib.Omega.{arith}
use lib.ListN.{replicate, length-replicate}
use Rattle.table.specs.Records.{atom_words}
use Rattle.table.specs.Limits.{atom_limit, bond_limit, ring_number_count}
use Rattle.builder.specs.State.{Bld, bld, fresh_builder, entry_words}
use Rattle.read_line.specs.Events.{ReadEvent, run}
use Rattle.table.proofs.Zeros.{zero_at}
use Rattle.builder_meaning.specs.Sketch.{Sketch, BothEnds, start_s, run_s}
use Rattle.builder_meaning.proofs.Same.{Same}
use Rattle.builder_meaning.proofs.Twins.{twins_ends}
use Rattle.builder_meaning.proofs.Run.{AllOk, same_run, same_start}

-- in a sketch that tables can say
pub same_ends : (b : Bld) (d : Sketch) → Same b d → BothEnds d.nodes
same_ends b d same =
    subst BothEnds (sym same.entries.nodes) (twins_ends same.kinds same.rows same.twins same.entries.sources)

-- tables of just the room that is told of, all zeros
abbrev blank : ℕ → ℕ → Bld
blank places slots =
    bld (replicate (places * atom_words) 0) (replicate (slots * entry_words) 0) (replicate places 0) (replicate ring_number_count 0) (fresh_builder places slots)

same_blank : (places slots : ℕ) → places ≤ atom_limit → slots ≤ bond_limit → Same (blank places slots) (start_s places slots)
same_blank places slots few small =
    same_start places slots (replicate (places * atom_words) 0) (replicate (slots * entry_words) 0) (replicate places 0) (replicate ring_number_count 0)
    (record {
      atoms = omega (arith, length-replicate {A = ℕ} (places * atom_words) 0);
      entries = omega (arith, length-replicate {A = ℕ} (slots * entry_words) 0);
      path = omega (arith, length-replicate {A = ℕ} places 0);
      rings = omega (arith, length-replicate {A = ℕ} ring_number_count 0);
      few = few;
      small = small;
    })
    (zero_at (places * atom_words)) (λ n h. zero_at ring_number_count n)

-- so in every one that events make within the limits
pub both_ends : (places slots : ℕ) (es : List ReadEvent) → places ≤ atom_limit → slots ≤ bond_limit → AllOk es → BothEnds (run_s (start_s places slots) es).nodes
both_ends places slots es few small ok =
    same_ends (run (blank places slots) es) (run_s (start_s places slots) es)
    (same_run (blank places slots) (start_s places slots) es (same_blank places slots few small) ok)
