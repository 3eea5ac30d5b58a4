-- How much room the agent has.
use Rattle.std.specs.Prelude.{ℕ}

pub record Sizes : Type 0 where
  -- commands that may be open, publishes at quality of service 0 apart
  pub acks : ℕ
  -- identifiers of received QoS 2 publishes that may be held
  pub inbound : ℕ
  -- pairs of a task and a filter
  pub routes : ℕ
