-- A place at which a number may stand stays one where no cell falls.
use Rattle.std.proofs.Common.{ℕ, ◌≤◌, List, get_or, arith}
use Rattle.store_spec.proofs.Common.{MayStand}

pub stands_still : (home : ℕ → ℕ) (cells now : List ℕ) (v place : ℕ) → ((k : ℕ) → get_or cells k 0 ≤ get_or now k 0) → MayStand home cells v place → MayStand home now v place
stands_still home cells now v place up h = record {
  from_home = h.from_home;
  greater_before = λ k from before. omega (arith, h.greater_before k from before, up k);
}
