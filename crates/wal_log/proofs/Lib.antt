mod Walking
