-- The laws over every history, together.
use Rattle.std.proofs.Common.{◌≡◌, ℕ, Bool}
use Rattle.history.specs.Slots.{Slots, count}
use Rattle.history.specs.Laws.{Lawful}
use Rattle.history.proofs.Runs.{stands, arrived, kept, ordered, earlier}
use Rattle.history.proofs.Once.{once}
use Rattle.history.proofs.Allowed.{allowed}

pub lawful : {G V : Type 0} (alike : G → G → Bool) (s : Slots G V) (len : ℕ) → len ≡ count s → Lawful alike s len
lawful alike s len c = record {
  stands = λ h a. stands alike h s a len c;
  arrived = λ h a. arrived alike h s a;
  kept = λ later h a. let b = earlier alike later h s a in kept alike later h b.0 b.1 s a;
  once = λ later h a. once alike later h s a;
  ordered = λ later h a. let b = earlier alike later h s a in ordered alike later h b.0 b.1 s a;
  allowed = λ later h c a. allowed alike later h c s a;
}
