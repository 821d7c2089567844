-- Each by computation.
use Rattle.std.proofs.Common.{refl}
use Rattle.node_examples.specs.Rows.{EmitsAndExits, StoresOutside, IsInterruptedInGuard, IsInterruptedWhenFull, PushesUntilFull, JumpsIntoGuard, KeepsTheTail, JumpsToUnit}
use Rattle.node_examples.specs.Programs.{emitting_code, emitting_relocs, emitting, storing_code, storing_relocs, storing, storing_low_code, storing_low_relocs, storing_low, pushing_code, pushing_relocs, pushing, jumping_into_guard_code, jumping_into_guard_relocs, jumping_into_guard, jumping_code, jumping_relocs, jumping}
use Rattle.node_examples.specs.Running.{printed, steps_printed}
use Rattle.flat_mem.specs.Bytes.{patch}
use Rattle.load_model.specs.Images.{added, placed_word, placed_words, code_image, placed_byte, region_image}
use Rattle.kernel_model.specs.Bytes.{part, filled, rows}
use Rattle.kernel_model.specs.Layout.{app_bytes, app_read, module_bytes, module_read, function_bytes, function_read, thread_bytes, linked_bytes, linked_read, queue_ends, thread_read, mutex_bytes, mutex_read, layout, table_bytes, outside, tables, kernel_in, kernel_of, empty}
use Rattle.line_text.specs.Hexadecimal.{hex_word}
use Rattle.machine_model.specs.Alu.{added as alu_added, logical, decimal_byte, decimal, alu, alu_one}
use Rattle.machine_model.specs.Context.{set_reg}
use Rattle.machine_model.specs.Does.{two, change, push, call, one, reti, jump, does}
use Rattle.machine_model.specs.Memory.{word_at}
use Rattle.machine_model.specs.Operands.{source_value, after_source, place_to, value_in, place_of, put_context, put_pairs}
use Rattle.machine_model.specs.Status.{with_flags}
use Rattle.msp_decode.specs.Function.{read_two, read_one, read_jump, read_instr, reading}
use Rattle.machine_model.specs.Accepting.{accepted}
use Rattle.load_model.specs.Loading.{places_of}
use Rattle.node_model.specs.Booting.{first_memory, empty_system, loaded, booted}
use Rattle.node_model.specs.Nodes.{all_owned, system_of, trace_text}
use Rattle.node_model.specs.Runs.{is_quiet, run}
use Rattle.trace_model.specs.Draws.{raised_at, pick_at}
use Rattle.node_model.specs.Steps.{case_of, fetched, step}
use Rattle.node_model.specs.Systems.{is_unit_address, mark_bytes, seen_in, bytes_in}
use Rattle.place_model.specs.Gaps.{gaps, longest, lowest}
use Rattle.place_model.specs.Placing.{free_from}
use Rattle.kernel_model.specs.Sync.{all_handed_over, woken}
use Rattle.kernel_model.specs.Ending.{threads_ended, waits_ended, ended, exited}
use Rattle.kernel_model.specs.Waking.{ticked, woken_line}
use Rattle.trace_model.specs.Texts.{shown_texts}
use Rattle.std.specs.Fmt.{digits}

pub emits_and_exits : EmitsAndExits
unfolding all_handed_over woken raised_at pick_at is_quiet run case_of fetched step accepted is_unit_address mark_bytes
    seen_in bytes_in first_memory empty_system places_of loaded booted all_owned system_of trace_text shown_texts ticked
    woken_line threads_ended waits_ended ended exited app_bytes app_read module_bytes module_read function_bytes
    function_read thread_bytes linked_bytes linked_read queue_ends thread_read mutex_bytes mutex_read layout table_bytes outside tables kernel_in kernel_of
    empty part filled rows free_from gaps longest lowest added placed_word placed_words code_image placed_byte region_image
    read_two read_one read_jump read_instr reading set_reg logical decimal_byte decimal alu alu_one two change push call one
    reti jump does with_flags source_value after_source place_to value_in place_of put_context put_pairs word_at patch
    hex_word alu_added digits emitting_code emitting_relocs emitting printed
emits_and_exits f0 = refl

pub stores_outside : StoresOutside
unfolding all_handed_over woken raised_at pick_at is_quiet run case_of fetched step accepted is_unit_address mark_bytes
    seen_in bytes_in first_memory empty_system places_of loaded booted all_owned system_of trace_text shown_texts ticked
    woken_line threads_ended waits_ended ended exited app_bytes app_read module_bytes module_read function_bytes
    function_read thread_bytes linked_bytes linked_read queue_ends thread_read mutex_bytes mutex_read layout table_bytes outside tables kernel_in kernel_of
    empty part filled rows free_from gaps longest lowest added placed_word placed_words code_image placed_byte region_image
    read_two read_one read_jump read_instr reading set_reg logical decimal_byte decimal alu alu_one two change push call one
    reti jump does with_flags source_value after_source place_to value_in place_of put_context put_pairs word_at patch
    hex_word alu_added digits storing_code storing_relocs storing printed
stores_outside f0 = refl

pub is_interrupted_in_guard : IsInterruptedInGuard
unfolding all_handed_over woken raised_at pick_at is_quiet run case_of fetched step accepted is_unit_address mark_bytes
    seen_in bytes_in first_memory empty_system places_of loaded booted all_owned system_of trace_text shown_texts ticked
    woken_line threads_ended waits_ended ended exited app_bytes app_read module_bytes module_read function_bytes
    function_read thread_bytes linked_bytes linked_read queue_ends thread_read mutex_bytes mutex_read layout table_bytes outside tables kernel_in kernel_of
    empty part filled rows free_from gaps longest lowest added placed_word placed_words code_image placed_byte region_image
    read_two read_one read_jump read_instr reading set_reg logical decimal_byte decimal alu alu_one two change push call one
    reti jump does with_flags source_value after_source place_to value_in place_of put_context put_pairs word_at patch
    hex_word alu_added digits storing_low_code storing_low_relocs storing_low steps_printed
is_interrupted_in_guard f0 = refl

pub is_interrupted_when_full : IsInterruptedWhenFull
unfolding all_handed_over woken raised_at pick_at is_quiet run case_of fetched step accepted is_unit_address mark_bytes
    seen_in bytes_in first_memory empty_system places_of loaded booted all_owned system_of trace_text shown_texts ticked
    woken_line threads_ended waits_ended ended exited app_bytes app_read module_bytes module_read function_bytes
    function_read thread_bytes linked_bytes linked_read queue_ends thread_read mutex_bytes mutex_read layout table_bytes outside tables kernel_in kernel_of
    empty part filled rows free_from gaps longest lowest added placed_word placed_words code_image placed_byte region_image
    read_two read_one read_jump read_instr reading set_reg logical decimal_byte decimal alu alu_one two change push call one
    reti jump does with_flags source_value after_source place_to value_in place_of put_context put_pairs word_at patch
    hex_word alu_added digits pushing_code pushing_relocs pushing steps_printed
is_interrupted_when_full f0 = refl

pub pushes_until_full : PushesUntilFull
unfolding all_handed_over woken raised_at pick_at is_quiet run case_of fetched step accepted is_unit_address mark_bytes
    seen_in bytes_in first_memory empty_system places_of loaded booted all_owned system_of trace_text shown_texts ticked
    woken_line threads_ended waits_ended ended exited app_bytes app_read module_bytes module_read function_bytes
    function_read thread_bytes linked_bytes linked_read queue_ends thread_read mutex_bytes mutex_read layout table_bytes outside tables kernel_in kernel_of
    empty part filled rows free_from gaps longest lowest added placed_word placed_words code_image placed_byte region_image
    read_two read_one read_jump read_instr reading set_reg logical decimal_byte decimal alu alu_one two change push call one
    reti jump does with_flags source_value after_source place_to value_in place_of put_context put_pairs word_at patch
    hex_word alu_added digits pushing_code pushing_relocs pushing printed
pushes_until_full f0 = refl

pub jumps_into_guard : JumpsIntoGuard
unfolding all_handed_over woken raised_at pick_at is_quiet run case_of fetched step accepted is_unit_address mark_bytes
    seen_in bytes_in first_memory empty_system places_of loaded booted all_owned system_of trace_text shown_texts ticked
    woken_line threads_ended waits_ended ended exited app_bytes app_read module_bytes module_read function_bytes
    function_read thread_bytes linked_bytes linked_read queue_ends thread_read mutex_bytes mutex_read layout table_bytes outside tables kernel_in kernel_of
    empty part filled rows free_from gaps longest lowest added placed_word placed_words code_image placed_byte region_image
    read_two read_one read_jump read_instr reading set_reg logical decimal_byte decimal alu alu_one two change push call one
    reti jump does with_flags source_value after_source place_to value_in place_of put_context put_pairs word_at patch
    hex_word alu_added digits jumping_into_guard_code jumping_into_guard_relocs jumping_into_guard printed
jumps_into_guard f0 = refl

pub keeps_the_tail : KeepsTheTail
unfolding all_handed_over woken raised_at pick_at is_quiet run case_of fetched step accepted is_unit_address mark_bytes
    seen_in bytes_in first_memory empty_system places_of loaded booted all_owned system_of trace_text shown_texts ticked
    woken_line threads_ended waits_ended ended exited app_bytes app_read module_bytes module_read function_bytes
    function_read thread_bytes linked_bytes linked_read queue_ends thread_read mutex_bytes mutex_read layout table_bytes outside tables kernel_in kernel_of
    empty part filled rows free_from gaps longest lowest added placed_word placed_words code_image placed_byte region_image
    read_two read_one read_jump read_instr reading set_reg logical decimal_byte decimal alu alu_one two change push call one
    reti jump does with_flags source_value after_source place_to value_in place_of put_context put_pairs word_at patch
    hex_word alu_added digits jumping_into_guard_code jumping_into_guard_relocs jumping_into_guard printed
keeps_the_tail f0 f1 = refl

pub jumps_to_unit : JumpsToUnit
unfolding all_handed_over woken raised_at pick_at is_quiet run case_of fetched step accepted is_unit_address mark_bytes
    seen_in bytes_in first_memory empty_system places_of loaded booted all_owned system_of trace_text shown_texts ticked
    woken_line threads_ended waits_ended ended exited app_bytes app_read module_bytes module_read function_bytes
    function_read thread_bytes linked_bytes linked_read queue_ends thread_read mutex_bytes mutex_read layout table_bytes outside tables kernel_in kernel_of
    empty part filled rows free_from gaps longest lowest added placed_word placed_words code_image placed_byte region_image
    read_two read_one read_jump read_instr reading set_reg logical decimal_byte decimal alu alu_one two change push call one
    reti jump does with_flags source_value after_source place_to value_in place_of put_context put_pairs word_at patch
    hex_word alu_added digits jumping_code jumping_relocs jumping printed
jumps_to_unit f0 = refl
