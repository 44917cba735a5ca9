-- byte of another arm, or is the star. Assumes nothing.
use mathlib.Core.Path.{◌≡◌, refl, sym, subst}
use Rattle.feature.specs.Text.{byte, bytes}
use Rattle.feature.specs.Names.{names, place_of}
use Rattle.feature.specs.Steps.{first_bytes, head_of}
use Rattle.feature.proofs.Cases.{by_eq}
use Rattle.feature.proofs.Names.{head_nowhere}
use Rattle.feature.proofs.element.first_of.Goals as goal

star : 0 ≡ head_of (byte "*")
unfolding names place_of first_bytes head_of
star = refl

pub returns-in_default : goal.returns-in_default
unfolding names
returns-in_default c =
    by_eq _ (byte "*") (λ e. subst (λ b. 0 ≡ head_of b) (sym e) star) (λ n. head_nowhere _ (bytes "*sponcbaZYXWVUTSRPONMLKIHGFEDCBA") (c.in_default.in_default-own.rest, n) tt)
