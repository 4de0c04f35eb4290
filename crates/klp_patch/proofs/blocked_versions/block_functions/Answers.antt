use Rattle.std.proofs.Common.{◌≡◌, ◌+◌, ◌<◌, ◌≤◌, ◌++◌, suc, List, length, take, sym, ap, subst, ◌∙◌, arith}
use Rattle.std.specs.Option.{is_some}
use Rattle.std.specs.List.{list_any}
use Rattle.std.proofs.lemmas.List.{append-nil, take_all}
use Rattle.klp_types.specs.Setting.{Function, function_for}
use Rattle.klp_catalog.specs.Catalog.{CatalogFunction}
use Rattle.klp_model.specs.Blocked.{is_version}
use Rattle.klp_tasks.specs.Members.{IsSetOf}
use Rattle.klp_patch.proofs.BlockLemmas.{blocked_by, blocked_if, blocked_by_more, by_functions}
use Rattle.klp_patch.proofs.blocked_versions.block_functions.Goals as goal
use Rattle.klp_patch.proofs.blocked_versions.block_functions.Goals.{in-Some, in_default}

pub loop-number-preserved : goal.loop-number-preserved
loop-number-preserved g c =
    let move = c.args.moving.now in
    let stacks = c.args.sites.now.stacks in
    let functions = c.functions-functions.result.now in
    let i = c.loop-number.number in
    let next : suc i ≡ i + 1 = omega arith in
    let below : i < length functions = omega arith in
    let more : blocked_by move stacks (take i functions) ++ blocked_if move stacks c.site.result ≡ blocked_by move stacks (take (i + 1) functions) =
    ap (λ o. blocked_by move stacks (take i functions) ++ blocked_if move stacks o) (c.site.ensures ∙ ap (λ (f : CatalogFunction). f.site) c.index-functions-number.is)
    ∙ sym (blocked_by_more move stacks functions i c.index-functions-number.result below) ∙ ap (λ n. blocked_by move stacks (take n functions)) next in
    elim c.match-site.branch [
      | in-Some w ↦ rw w.blocked-is (subst (IsSetOf w.block_at.new.blocked) (ap (λ o. blocked_by move stacks (take i functions) ++ blocked_if move stacks o) (sym w.in-Some.is) ∙ more)
          (w.block_at.ensures (blocked_by move stacks (take i functions)) c.loop-number.invariant))
      | in_default w ↦ rw w.blocked-is (subst (IsSetOf c.loop-number.blocked)
          (sym (append-nil (blocked_by move stacks (take i functions))) ∙ ap (λ o. blocked_by move stacks (take i functions) ++ blocked_if move stacks o) (sym w.in_default.is) ∙ more) c.loop-number.invariant)
    ]

pub returns : goal.returns
returns g c version =
    let move = c.args.moving.now in
    let stacks = c.args.sites.now.stacks in
    let functions = c.functions-functions.result.now in
    let past : length functions ≤ c.loop-number.number = omega arith in
    c.loop-number.invariant version ∙ ap (λ fs. list_any (is_version version) (blocked_by move stacks fs)) (take_all c.loop-number.number functions past)
    ∙ by_functions (is_version version) move stacks functions
    (λ site there. ap (λ (fs : List Function). is_some (function_for fs site)) c.functions-functions.ensures.setting ∙ c.requires.own site there)
