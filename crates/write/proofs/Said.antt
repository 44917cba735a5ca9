-- What holds of every write: a line that is written, or for which there was no room, has at most 24 bytes for each atom and 4
-- for each entry; the writer takes every event of a walk; and a graph that is written was walked to its end. Assumes nothing.
use Prim.Native.Nat.{ℕ, ◌/◌, ◌≤◌}
use mathlib.Core.Path.{◌≡◌, refl}
use mathlib.Core.List.{List, []}
use mathlib.Core.Bool.{false}
use native.Mathlib.Omega.{arith}
use lib.ListN.{length}
use lib.Dec.{ltb}
use Rattle.table.specs.Records.{atom_words, bond_words}
use Rattle.table.specs.Limits.{atom_limit, bond_limit}
use Rattle.table.specs.Starts.{entry_starts}
use Rattle.table_check.specs.Judge.{bad_record}
use Rattle.walk.specs.Walk.{turns_of}
use Rattle.walk_laws.specs.Trek.{Room, AllAccepted, degrees, Finished}
use Rattle.feature.proofs.Cases.{by_test}
use Rattle.walk_laws.proofs.Accepted.{accepted}
use Rattle.walk_laws.proofs.Bound.{line_bound_lem}
use Rattle.walk_laws.proofs.Ended as walk-laws
use Rattle.walk_laws.proofs.Judged.{judged_degrees}
use Rattle.std.specs.Prelude.{Err, None, Result}
use Rattle.write.specs.declared.answer.WriteError.{WriteError}
use Rattle.write.specs.declared.answer.WriteError.TheVariants.{Stopped, AtomRoom, BondRoom, BadTable}
use Rattle.write.proofs.Unless.{by_unless}
use Rattle.write.specs.Bound.{line_bound, bytes_of, Short}
use Rattle.table.specs.Zeros.{zeros}
use Rattle.table.proofs.Rooms.{lesser_both}
use Rattle.write.specs.Write.{pair_words, graph_of, walk_in, walk_of, said_in, walk_events, line_said, atom_places, bond_slots, WriteLeft, line_refusing, put_line, line_concluded, graph_written, write_of}

-- ---- a graph that was admitted
pub few_atoms_lem : (atoms : List ℕ) (n : ℕ) → ltb (atom_places atoms) n ≡ false → n ≤ atom_limit
unfolding atom_places
few_atoms_lem atoms n h = (lesser_both atom_limit (length atoms / atom_words) n h).0

pub few_bonds_lem : (bonds : List ℕ) (m : ℕ) → ltb (bond_slots bonds) m ≡ false → m ≤ bond_limit
unfolding bond_slots
few_bonds_lem bonds m h = (lesser_both bond_limit (length bonds / bond_words) m h).0

module _ (atoms bonds : List ℕ) (n m : ℕ) (few : n ≤ atom_limit) where
  room : Room (graph_of n atoms bonds) atom_limit atom_limit atom_limit
  room = record { met = few; back = few; taken = few }

  pub all_said : AllAccepted atom_limit (walk_events atoms n bonds m) []
  unfolding said_in
  all_said = accepted (graph_of n atoms bonds) atom_limit atom_limit atom_limit atom_limit (zeros pair_words) room atom_limit few (turns_of n m)

  module _ (sound : bad_record atoms n bonds m ≡ None) where
    whole : degrees (graph_of n atoms bonds) n ≤ m
    whole = omega (arith, judged_degrees n m atoms bonds (entry_starts n atoms (zeros atom_limit)) sound)

    pub line_short : length (line_said (walk_events atoms n bonds m)) ≤ line_bound n m
    unfolding said_in
    line_short =
        line_bound_lem (graph_of n atoms bonds) atom_limit atom_limit atom_limit atom_limit (zeros pair_words) room atom_limit few m whole (turns_of n m)

    pub all_walked : (walk_of atoms n bonds m).at.refusal ≡ None → Finished (graph_of n atoms bonds) (walk_of atoms n bonds m)
    unfolding walk_in
    all_walked e = walk-laws.ended (graph_of n atoms bonds) atom_limit atom_limit atom_limit atom_limit (zeros pair_words) room m whole e

-- ---- every write
no_bytes : (most : ℕ) (r : Result ℕ WriteError) → bytes_of r ≡ 0 → Short most r
no_bytes most r e = record { bytes = omega (arith, e) }

-- the same of what a write leaves
record ShortLeft (most : ℕ) (x : WriteLeft) : Type 0 where
  said : Short most x.answer

none : (most room : ℕ) (why : WriteError) → bytes_of (Err why) ≡ 0 → ShortLeft most (line_refusing room why)
none most room why e = record { said = no_bytes most (Err why) e }

module _ (room : ℕ) (atoms bonds : List ℕ) (n m : ℕ) where
  short : ltb (atom_places atoms) n ≡ false → bad_record atoms n bonds m ≡ None → length (line_said (walk_events atoms n bonds m)) ≤ line_bound n m
  short a c =
      line_short atoms bonds n m (few_atoms_lem atoms n a) c

  put_short : (l most : ℕ) (line : List ℕ) → length line ≤ most → ShortLeft most (put_line l line)
  unfolding put_line bytes_of
  put_short l most line h =
      by_test (ShortLeft most) (ltb l (length line)) (λ q. record { said = record { bytes = h } }) (λ q. record { said = record { bytes = h } })

  graph_short : length (line_said (walk_events atoms n bonds m)) ≤ line_bound n m → ShortLeft (line_bound n m) (graph_written room atoms n bonds m)
  unfolding graph_written line_concluded bytes_of
  graph_short h =
      by_unless (ShortLeft (line_bound n m)) (walk_of atoms n bonds m).at.refusal (λ why q. none (line_bound n m) room (Stopped why) refl)
      (λ q. put_short room (line_bound n m) (line_said (walk_events atoms n bonds m)) h)

  all_short : ShortLeft (line_bound n m) (write_of room atoms n bonds m)
  unfolding write_of bytes_of
  all_short =
      by_test (ShortLeft (line_bound n m)) (ltb (atom_places atoms) n) (λ q. none (line_bound n m) room (AtomRoom n) refl)
      (λ a. by_test (ShortLeft (line_bound n m)) (ltb (bond_slots bonds) m) (λ q. none (line_bound n m) room (BondRoom m) refl)
      (λ b. by_unless (ShortLeft (line_bound n m)) (bad_record atoms n bonds m) (λ bad q. none (line_bound n m) room (BadTable bad) refl)
      (λ c. graph_short (short a c))))

  pub written_short : Short (line_bound n m) (write_of room atoms n bonds m).answer
  written_short = all_short.said
