use Rattle.std.proofs.Common.{◌≡◌, ◌⊎◌, ℕ, Bor, List, map, Ok, Err}
use Rattle.klp_tables.specs.Kpatch.{kpatch_callbacks, kpatch_functions, kpatch_meaning}
use Rattle.klp_tables.specs.declared.fault.TableFault.TheVariants.{NoMemory}
use Rattle.klp_tables.proofs.KpatchLemmas.{all_read, post_fails, postun_fails, pre_fails, preun_fails}
use Rattle.klp_tables.proofs.kpatch.kpatch_file.Goals as goal

pub returns-in-Err-kpatch_callbacks : goal.returns-in-Err-kpatch_callbacks
returns-in-Err-kpatch_callbacks c =
    pre_fails (kpatch_functions c.args.elf.now c.args.table) (kpatch_callbacks c.args.elf.now c.args.sections.pre_patch)
    (kpatch_callbacks c.args.elf.now c.args.sections.post_patch) (kpatch_callbacks c.args.elf.now c.args.sections.pre_unpatch)
    (kpatch_callbacks c.args.elf.now c.args.sections.post_unpatch) c.in-Err-kpatch_callbacks.fault (map kpatch_meaning c.in-Ok.functions.items)
    c.in-Ok.ensures c.in-Err-kpatch_callbacks.ensures

pub returns-in-Err-kpatch_callbacks-2 : goal.returns-in-Err-kpatch_callbacks-2
returns-in-Err-kpatch_callbacks-2 c =
    post_fails (kpatch_functions c.args.elf.now c.args.table) (kpatch_callbacks c.args.elf.now c.args.sections.pre_patch)
    (kpatch_callbacks c.args.elf.now c.args.sections.post_patch) (kpatch_callbacks c.args.elf.now c.args.sections.pre_unpatch)
    (kpatch_callbacks c.args.elf.now c.args.sections.post_unpatch) c.in-Err-kpatch_callbacks-2.fault (map kpatch_meaning c.in-Ok.functions.items)
    c.in-Ok.ensures (map (λ (n : Bor (List ℕ)). n.now) c.in-Ok-kpatch_callbacks.names.items) c.in-Ok-kpatch_callbacks.ensures
    c.in-Err-kpatch_callbacks-2.ensures

pub returns-in-Err-kpatch_callbacks-3 : goal.returns-in-Err-kpatch_callbacks-3
returns-in-Err-kpatch_callbacks-3 c =
    preun_fails (kpatch_functions c.args.elf.now c.args.table) (kpatch_callbacks c.args.elf.now c.args.sections.pre_patch)
    (kpatch_callbacks c.args.elf.now c.args.sections.post_patch) (kpatch_callbacks c.args.elf.now c.args.sections.pre_unpatch)
    (kpatch_callbacks c.args.elf.now c.args.sections.post_unpatch) c.in-Err-kpatch_callbacks-3.fault (map kpatch_meaning c.in-Ok.functions.items)
    c.in-Ok.ensures (map (λ (n : Bor (List ℕ)). n.now) c.in-Ok-kpatch_callbacks.names.items) c.in-Ok-kpatch_callbacks.ensures
    (map (λ (n : Bor (List ℕ)). n.now) c.in-Ok-kpatch_callbacks-2.names.items) c.in-Ok-kpatch_callbacks-2.ensures
    c.in-Err-kpatch_callbacks-3.ensures

pub returns-in-Ok-kpatch_callbacks-4 : goal.returns-in-Ok-kpatch_callbacks-4
returns-in-Ok-kpatch_callbacks-4 c =
    all_read (kpatch_functions c.args.elf.now c.args.table) (kpatch_callbacks c.args.elf.now c.args.sections.pre_patch)
    (kpatch_callbacks c.args.elf.now c.args.sections.post_patch) (kpatch_callbacks c.args.elf.now c.args.sections.pre_unpatch)
    (kpatch_callbacks c.args.elf.now c.args.sections.post_unpatch) NoMemory (map kpatch_meaning c.in-Ok.functions.items)
    c.in-Ok.ensures (map (λ (n : Bor (List ℕ)). n.now) c.in-Ok-kpatch_callbacks.names.items) c.in-Ok-kpatch_callbacks.ensures
    (map (λ (n : Bor (List ℕ)). n.now) c.in-Ok-kpatch_callbacks-2.names.items) c.in-Ok-kpatch_callbacks-2.ensures
    (map (λ (n : Bor (List ℕ)). n.now) c.in-Ok-kpatch_callbacks-3.names.items) c.in-Ok-kpatch_callbacks-3.ensures
    (map (λ (n : Bor (List ℕ)). n.now) c.in-Ok-kpatch_callbacks-4.post_unpatch.items) c.in-Ok-kpatch_callbacks-4.ensures

pub returns : goal.returns
returns c =
    postun_fails (kpatch_functions c.args.elf.now c.args.table) (kpatch_callbacks c.args.elf.now c.args.sections.pre_patch)
    (kpatch_callbacks c.args.elf.now c.args.sections.post_patch) (kpatch_callbacks c.args.elf.now c.args.sections.pre_unpatch)
    (kpatch_callbacks c.args.elf.now c.args.sections.post_unpatch) c.in-Err-kpatch_callbacks-4.fault (map kpatch_meaning c.in-Ok.functions.items)
    c.in-Ok.ensures (map (λ (n : Bor (List ℕ)). n.now) c.in-Ok-kpatch_callbacks.names.items) c.in-Ok-kpatch_callbacks.ensures
    (map (λ (n : Bor (List ℕ)). n.now) c.in-Ok-kpatch_callbacks-2.names.items) c.in-Ok-kpatch_callbacks-2.ensures
    (map (λ (n : Bor (List ℕ)). n.now) c.in-Ok-kpatch_callbacks-3.names.items) c.in-Ok-kpatch_callbacks-3.ensures
    c.in-Err-kpatch_callbacks-4.ensures
