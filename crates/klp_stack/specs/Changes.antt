-- When a change of the stacks is right, with its undo record.
use Rattle.std.specs.Prelude.{◌≡◌, List}
use Rattle.klp_types.specs.declared.record.Record.{Record}
use Rattle.klp_types.specs.declared.version.Entry.{Entry}
use Rattle.klp_stack.specs.Undo.{put_back}

-- a change turns the stacks `before` into `after`, and `row` is its undo record
pub record Changes (before after : List (List Entry)) (row : Record) (to : List (List Entry)) : Type 0 where
  -- the stacks after are exactly the intended ones
  pub stacks : after ≡ to
  -- the record, put back, restores the stacks before
  pub undo : put_back after row ≡ before
