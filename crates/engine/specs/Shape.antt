-- What the struct of create's numbers stands for.
use Rattle.engine.specs.declared.create.Numbers as declared
use Rattle.engine.specs.Create.{Numbers, numbers}

-- the ten numbers that a struct of the code holds
abbrev pub numbers_of : declared.Numbers → Numbers
numbers_of c =
    numbers c.«nodes» c.«faulty» c.«ahead» c.«own» c.«key» c.«strategy» c.«epoch» c.«schedule» c.«first» c.«second»
