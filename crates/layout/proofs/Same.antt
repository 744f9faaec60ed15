-- Sizes, and layouts, that have the same parts are the same: their invariants add nothing to them.
use Rattle.std.proofs.Common.{◌≡◌, ◌≤◌}
use mathlib.Core.HLevel.{is_prop→PathP}
use native.Mathlib.Bridge.{le_prop}
use Rattle.layout.specs.declared.sizes.Sizes.{Sizes}

pub sizes_same : (a b : Sizes) → a.ensemble ≡ b.ensemble → a.write ≡ b.write → a.ack ≡ b.ack → a ≡ b
sizes_same a b e w k =
    λ i. record {
      ensemble = e i;
      write = w i;
      ack = k i;
      small = is_prop→PathP (λ j. e j ≤ 5) (λ j. le_prop) a.small b.small i;
      written = is_prop→PathP (λ j. w j ≤ e j) (λ j. le_prop) a.written b.written i;
      acked = is_prop→PathP (λ j. k j ≤ w j) (λ j. le_prop) a.acked b.acked i;
      some = is_prop→PathP (λ j. 1 ≤ k j) (λ j. le_prop) a.some b.some i;
    }
