mod CallersGoOn
mod WaitsBegun
