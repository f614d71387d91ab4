use Rattle.paging_message.proofs.Common.{fit_value, ℕ, List, [], ◌<◌, ◌^◌, get_or, arith, system_of, system_values, system_widths}
use Rattle.chip_core.specs.Fields.{FieldsFit, in_widths}
use Rattle.paging_message.proofs.system.fields_of.Goals as goal

-- Each value has at most as many bits as its field. A search that uses only the requirement takes
-- longer for each field before the value.
value_fits : (values : List ℕ) →
    FieldsFit (in_widths system_widths (system_values (system_of values []))) → (i : ℕ) → i < 37 →
    get_or (system_values (system_of values [])) i 0 < 2 ^ (get_or system_widths i 0)
value_fits values fit i within = fit_value system_widths (system_values (system_of values [])) i fit within within

pub overflow_cast-fields_of_values-fields_of_values-18 : goal.overflow_cast-fields_of_values-fields_of_values-18
unfolding system_of
overflow_cast-fields_of_values-fields_of_values-18 c =
    omega (arith, c.fields_of_values-get-18.ensures, value_fits c.args.values.now c.requires 17 (omega arith))

pub overflow_cast-fields_of_values-fields_of_values-19 : goal.overflow_cast-fields_of_values-fields_of_values-19
unfolding system_of
overflow_cast-fields_of_values-fields_of_values-19 c =
    omega (arith, c.fields_of_values-get-19.ensures, value_fits c.args.values.now c.requires 18 (omega arith))

pub overflow_cast-fields_of_values-fields_of_values-20 : goal.overflow_cast-fields_of_values-fields_of_values-20
unfolding system_of
overflow_cast-fields_of_values-fields_of_values-20 c =
    omega (arith, c.fields_of_values-get-20.ensures, value_fits c.args.values.now c.requires 19 (omega arith))

pub overflow_cast-fields_of_values-fields_of_values-21 : goal.overflow_cast-fields_of_values-fields_of_values-21
unfolding system_of
overflow_cast-fields_of_values-fields_of_values-21 c =
    omega (arith, c.fields_of_values-get-21.ensures, value_fits c.args.values.now c.requires 20 (omega arith))

pub overflow_cast-fields_of_values-fields_of_values-22 : goal.overflow_cast-fields_of_values-fields_of_values-22
unfolding system_of
overflow_cast-fields_of_values-fields_of_values-22 c =
    omega (arith, c.fields_of_values-get-22.ensures, value_fits c.args.values.now c.requires 21 (omega arith))

pub overflow_cast-fields_of_values-fields_of_values-23 : goal.overflow_cast-fields_of_values-fields_of_values-23
unfolding system_of
overflow_cast-fields_of_values-fields_of_values-23 c =
    omega (arith, c.fields_of_values-get-23.ensures, value_fits c.args.values.now c.requires 22 (omega arith))

pub overflow_cast-fields_of_values-fields_of_values-24 : goal.overflow_cast-fields_of_values-fields_of_values-24
unfolding system_of
overflow_cast-fields_of_values-fields_of_values-24 c =
    omega (arith, c.fields_of_values-get-24.ensures, value_fits c.args.values.now c.requires 23 (omega arith))

pub overflow_cast-fields_of_values-fields_of_values-25 : goal.overflow_cast-fields_of_values-fields_of_values-25
unfolding system_of
overflow_cast-fields_of_values-fields_of_values-25 c =
    omega (arith, c.fields_of_values-get-25.ensures, value_fits c.args.values.now c.requires 24 (omega arith))

pub overflow_cast-fields_of_values-fields_of_values-26 : goal.overflow_cast-fields_of_values-fields_of_values-26
unfolding system_of
overflow_cast-fields_of_values-fields_of_values-26 c =
    omega (arith, c.fields_of_values-get-26.ensures, value_fits c.args.values.now c.requires 25 (omega arith))

pub overflow_cast-fields_of_values-fields_of_values-27 : goal.overflow_cast-fields_of_values-fields_of_values-27
unfolding system_of
overflow_cast-fields_of_values-fields_of_values-27 c =
    omega (arith, c.fields_of_values-get-27.ensures, value_fits c.args.values.now c.requires 26 (omega arith))

pub overflow_cast-fields_of_values-fields_of_values-28 : goal.overflow_cast-fields_of_values-fields_of_values-28
unfolding system_of
overflow_cast-fields_of_values-fields_of_values-28 c =
    omega (arith, c.fields_of_values-get-28.ensures, value_fits c.args.values.now c.requires 27 (omega arith))

pub overflow_cast-fields_of_values-fields_of_values-29 : goal.overflow_cast-fields_of_values-fields_of_values-29
unfolding system_of
overflow_cast-fields_of_values-fields_of_values-29 c =
    omega (arith, c.fields_of_values-get-29.ensures, value_fits c.args.values.now c.requires 28 (omega arith))

pub overflow_cast-fields_of_values-fields_of_values-30 : goal.overflow_cast-fields_of_values-fields_of_values-30
unfolding system_of
overflow_cast-fields_of_values-fields_of_values-30 c =
    omega (arith, c.fields_of_values-get-30.ensures, value_fits c.args.values.now c.requires 29 (omega arith))

pub overflow_cast-fields_of_values-fields_of_values-31 : goal.overflow_cast-fields_of_values-fields_of_values-31
unfolding system_of
overflow_cast-fields_of_values-fields_of_values-31 c =
    omega (arith, c.fields_of_values-get-31.ensures, value_fits c.args.values.now c.requires 30 (omega arith))

pub overflow_cast-fields_of_values-fields_of_values-32 : goal.overflow_cast-fields_of_values-fields_of_values-32
unfolding system_of
overflow_cast-fields_of_values-fields_of_values-32 c =
    omega (arith, c.fields_of_values-get-32.ensures, value_fits c.args.values.now c.requires 31 (omega arith))

pub overflow_cast-fields_of_values-fields_of_values-33 : goal.overflow_cast-fields_of_values-fields_of_values-33
unfolding system_of
overflow_cast-fields_of_values-fields_of_values-33 c =
    omega (arith, c.fields_of_values-get-33.ensures, value_fits c.args.values.now c.requires 32 (omega arith))

pub overflow_cast-fields_of_values-fields_of_values-34 : goal.overflow_cast-fields_of_values-fields_of_values-34
unfolding system_of
overflow_cast-fields_of_values-fields_of_values-34 c =
    omega (arith, c.fields_of_values-get-34.ensures, value_fits c.args.values.now c.requires 33 (omega arith))

pub overflow_cast-fields_of_values-fields_of_values-35 : goal.overflow_cast-fields_of_values-fields_of_values-35
unfolding system_of
overflow_cast-fields_of_values-fields_of_values-35 c =
    omega (arith, c.fields_of_values-get-35.ensures, value_fits c.args.values.now c.requires 34 (omega arith))

pub overflow_cast-fields_of_values-fields_of_values-36 : goal.overflow_cast-fields_of_values-fields_of_values-36
unfolding system_of
overflow_cast-fields_of_values-fields_of_values-36 c =
    omega (arith, c.fields_of_values-get-36.ensures, value_fits c.args.values.now c.requires 35 (omega arith))

pub overflow_cast-fields_of_values-fields_of_values-37 : goal.overflow_cast-fields_of_values-fields_of_values-37
unfolding system_of
overflow_cast-fields_of_values-fields_of_values-37 c =
    omega (arith, c.fields_of_values-get-37.ensures, value_fits c.args.values.now c.requires 36 (omega arith))
