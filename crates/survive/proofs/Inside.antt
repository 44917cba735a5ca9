-- What a bracket atom that was read came from: each field was read where the one before it ended. Assumes nothing.
use Prim.Native.Nat.{ℕ, ◌+◌}
use mathlib.Core.Path.{sym, ◌≡◌, refl}
use mathlib.Core.List.{List}
use mathlib.Core.Bool.{Bool, true, false}
use lib.Dec.{eqb}
use borrow.Author.Tests.{eqb-true}
use Rattle.feature.specs.Pick.{pick}
use Rattle.feature.specs.Text.{byte}
use Rattle.feature.specs.Kinds.{bracket_of_six}
use Rattle.feature.specs.declared.atom_kind.BracketAtom.{BracketAtom}
use Rattle.feature.specs.declared.atom_kind.AtomKind.{AtomKind}
use Rattle.feature.specs.declared.atom_kind.AtomKind.TheVariants.{Bracket}
use Rattle.feature.proofs.Cases.{impossible, found_parts}
use Rattle.read_token.specs.declared.scanner.Missing.{Missing}
use Rattle.std.specs.Prelude.{Err, Ok, Some}
use Rattle.read_token.specs.Scan.{Step}
use Rattle.read_token.specs.Scan.{Found}
use Rattle.read_token.specs.Scan.{peek_at, missing_at, isotope_at, symbol_at, configuration_at, hydrogens_at, charge_at, map_at, close_at, after_map, after_charge, after_hydrogens, after_configuration, configured, after_symbol, after_isotope, inside_at}
use Rattle.survive.proofs.Field.{got}

-- a bracket atom read from the place after its "[" on, with the place where each field ends
pub record Inside (s : List ℕ) (at : ℕ) (b : BracketAtom) (n : ℕ) : Type 0 where
  pub e1 : ℕ
  pub e2 : ℕ
  pub e3 : ℕ
  pub e4 : ℕ
  pub e5 : ℕ
  pub e6 : ℕ
  pub isotope : got (isotope_at s at) ≡ Ok (b.isotope, e1)
  pub symbol : symbol_at s e1 ≡ Ok (b.symbol, e2)
  pub configuration : configuration_at s e2 ≡ Ok (b.configuration, e3)
  pub hydrogens : got (hydrogens_at s e3) ≡ Ok (b.hydrogens, e4)
  pub charge : got (charge_at s e4) ≡ Ok (b.charge, e5)
  pub map : map_at s e5 ≡ Ok (b.map, e6)
  pub close : peek_at s e6 ≡ byte "]"
  pub end : n ≡ e6 + 1

-- a reader's step that got something
record Gets (st : Step) : Type 0 where
  value : ℕ
  next : ℕ
  is : st ≡ Ok (value, next)

-- an atom comes of a step that got something
gets : (f : Step → Found) (m : ℕ → Missing) (st : Step) (k : AtomKind) (n : ℕ) → ((p : ℕ) → f (Err p) ≡ Err (m p)) → f st ≡ Ok (Some (k, n)) → Gets st
gets f m (Ok (v, j)) k n h e = record { value = v; next = j; is = refl }
gets f m (Err p) k n h e = impossible (cc (h p))

-- a bracket that was closed
record Closed (s : List ℕ) (b : BracketAtom) (at : ℕ) (k : AtomKind) (n : ℕ) : Type 0 where
  is : Bracket b ≡ k
  close : peek_at s at ≡ byte "]"
  end : n ≡ at + 1

-- an atom comes of such a bracket
closed : (s : List ℕ) (b : BracketAtom) (at : ℕ) (k : AtomKind) (n : ℕ) → close_at s b at ≡ Ok (Some (k, n)) → Closed s b at k n
unfolding close_at
closed s b at k n = split (eqb (peek_at s at) (byte "]")) refl where
  split : (q : Bool) → eqb (peek_at s at) (byte "]") ≡ q → pick {A = Found} q (Ok (Some (Bracket b, at + 1))) (Err (missing_at s at)) ≡ Ok (Some (k, n)) → Closed s b at k n
  split true p e =
      let d = found_parts e in
      record { is = d.0; close = eqb-true (peek_at s at) (byte "]") p; end = sym d.1 }
  split false p e = impossible cc

-- an atom that is a bracket's
pub record Read (s : List ℕ) (at : ℕ) (k : AtomKind) (n : ℕ) : Type 0 where
  pub atom : BracketAtom
  pub is : Bracket atom ≡ k
  pub inside : Inside s at atom n

-- what is read after "[" is one
pub inside_read : (s : List ℕ) (at : ℕ) (k : AtomKind) (n : ℕ) → inside_at s at ≡ Ok (Some (k, n)) → Read s at k n
unfolding inside_at after_isotope after_symbol configured after_configuration after_hydrogens after_charge after_map
inside_read s at k n e =
    let i = isotope_at s at in
    let y = gets (after_symbol s i.value) (missing_at s) (symbol_at s i.next) k n (λ p. refl) e in
    let ey = rw y.is at e in
    let c = gets (configured s i.value y.value) (missing_at s) (configuration_at s y.next) k n (λ p. refl) ey in
    let ec = rw c.is at ey in
    let h = hydrogens_at s c.next in
    let q = charge_at s h.next in
    let m = gets (after_map s i.value y.value c.value h.value q.value) (missing_at s) (map_at s q.next) k n (λ p. refl) ec in
    let b = bracket_of_six i.value y.value c.value h.value q.value m.value in
    let z = closed s b m.next k n (rw m.is at ec) in
    record {
      atom = b;
      is = z.is;
      inside =
          record {
            e1 = i.next;
            e2 = y.next;
            e3 = c.next;
            e4 = h.next;
            e5 = q.next;
            e6 = m.next;
            isotope = refl;
            symbol = y.is;
            configuration = c.is;
            hydrogens = refl;
            charge = refl;
            map = m.is;
            close = z.close;
            end = z.end;
          };
    }
