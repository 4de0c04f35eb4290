-- How often a callback is among the callbacks that ran, and its count afterwards.
use Rattle.std.specs.Prelude.{ℕ, zero, suc, ◌+◌, ◌-◌, ◌^◌, ◌==◌, ◌&&◌, min, Bool, List, [], ◌∷◌}
use Rattle.std.specs.List.{count_by}
use Rattle.klp_types.specs.declared.callback.Which.{Which}
use Rattle.klp_types.specs.Callbacks.{Call, is_kind}

-- a callback: its patch, the index of its object in that patch, from 0, and its kind
pub record CallbackId : Type 0 where
  pub patch : ℕ
  pub place : ℕ
  pub which : Which

-- whether this is the callback of this kind that the patch has for the object at this index
abbrev pub is_callback : ℕ → ℕ → Which → CallbackId → Bool
is_callback patch place which id = (patch == id.patch) && ((place == id.place) && is_kind which id.which)

-- how often this callback is among the runs
abbrev pub times : ℕ → ℕ → Which → List Call → ℕ
times patch place which calls =
    count_by (λ (c : Call). (c.patch == patch) && ((c.place == place) && is_kind c.which which)) calls

-- a count after this many more runs; it stops at the greatest number of 64 bits
abbrev pub grown : ℕ → ℕ → ℕ
grown zero runs = runs
grown (suc more) runs = min (runs + suc more) (2 ^ 64 - 1)

-- the counts of these callbacks after the runs: each grows by how often its callback is among them
abbrev pub counts_after : List Call → List CallbackId → List ℕ → List ℕ
counts_after calls [] runs = runs
counts_after calls (id ∷ ids) [] = []
counts_after calls (id ∷ ids) (count ∷ counts) = grown (times id.patch id.place id.which calls) count ∷ counts_after calls ids counts

-- the counts after any runs; without a run they stay the same, whatever the callbacks are
abbrev pub runs_after : List Call → List CallbackId → List ℕ → List ℕ
runs_after [] ids runs = runs
runs_after (call ∷ calls) ids runs = counts_after (call ∷ calls) ids runs
