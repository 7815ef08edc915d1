-- Each figure is small enough that its cast keeps it: a line a name. Assumes nothing.
use Rattle.outputs.proofs.Signed.{fits, grams-back}
use Rattle.figure_numbers.proofs.by_number.Goals as goal

pub overflow_cast-result : goal.overflow_cast-result
overflow_cast-result c = fits c.requires 0

pub overflow_cast-result-2 : goal.overflow_cast-result-2
overflow_cast-result-2 c = fits c.requires 1

pub overflow_cast-result-3 : goal.overflow_cast-result-3
overflow_cast-result-3 c = fits c.requires 2

pub overflow_cast-result-4 : goal.overflow_cast-result-4
overflow_cast-result-4 c = fits c.requires 3

pub overflow_cast-result-5 : goal.overflow_cast-result-5
overflow_cast-result-5 c = fits c.requires 4

pub overflow_cast-result-6 : goal.overflow_cast-result-6
overflow_cast-result-6 c = fits c.requires 5

pub overflow_cast-result-7 : goal.overflow_cast-result-7
overflow_cast-result-7 c = fits c.requires 6

pub overflow_cast-result-8 : goal.overflow_cast-result-8
overflow_cast-result-8 c = fits c.requires 7

pub overflow_cast-result-9 : goal.overflow_cast-result-9
overflow_cast-result-9 c = fits c.requires 8

pub overflow_cast-result-10 : goal.overflow_cast-result-10
overflow_cast-result-10 c = fits c.requires 9

pub overflow_cast-result-11 : goal.overflow_cast-result-11
overflow_cast-result-11 c = fits c.requires 10

pub overflow_cast-result-12 : goal.overflow_cast-result-12
overflow_cast-result-12 c = fits c.requires
    11

pub overflow_cast-result-13 : goal.overflow_cast-result-13
overflow_cast-result-13 c = fits c.requires 12

pub overflow_cast-result-14 : goal.overflow_cast-result-14
overflow_cast-result-14 c = fits c.requires 13

pub overflow_cast-result-15 : goal.overflow_cast-result-15
overflow_cast-result-15 c = fits c.requires 15

pub overflow_cast-result-16 : goal.overflow_cast-result-16
overflow_cast-result-16 c = fits c.requires 16

pub overflow_cast-result-17 : goal.overflow_cast-result-17
overflow_cast-result-17 c = fits c.requires 17

pub overflow_cast-result-18 : goal.overflow_cast-result-18
overflow_cast-result-18 c = fits c.requires 18

pub overflow_cast-result-19 : goal.overflow_cast-result-19
overflow_cast-result-19 c = fits c.requires 19

pub overflow_cast-result-20 : goal.overflow_cast-result-20
overflow_cast-result-20 c = fits c.requires 20

pub overflow_cast-result-21 : goal.overflow_cast-result-21
overflow_cast-result-21 c = fits c.requires 21

pub overflow_cast-result-22 : goal.overflow_cast-result-22
overflow_cast-result-22 c = fits c.requires 22

pub overflow_cast-result-23 : goal.overflow_cast-result-23
overflow_cast-result-23 c = fits c.requires 23

pub overflow_cast-result-24 : goal.overflow_cast-result-24
overflow_cast-result-24 c = fits c.requires 24

pub overflow_cast-result-25 : goal.overflow_cast-result-25
overflow_cast-result-25 c = fits c.requires
    25

pub overflow_cast-result-26 : goal.overflow_cast-result-26
overflow_cast-result-26 c = fits c.requires 26

pub overflow_cast-result-27 : goal.overflow_cast-result-27
overflow_cast-result-27 c = fits c.requires 27

pub overflow_cast-result-28 : goal.overflow_cast-result-28
overflow_cast-result-28 c = fits c.requires 28

pub overflow_cast-result-29 : goal.overflow_cast-result-29
overflow_cast-result-29 c = fits c.requires 29

pub overflow_cast-result-30 : goal.overflow_cast-result-30
overflow_cast-result-30 c = fits c.requires 30

pub returns : goal.returns
returns c = grams-back _ c.requires
